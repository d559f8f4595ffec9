-- Whether missing numbers of a range are still asked for, and when the last of them was.
use Rattle.std.proofs.Common.{◌≡◌, ℕ, zero, suc, ◌+◌, ◌-◌, ◌<◌, ◌≤◌, Bool, true, false, cond, ltb, List, [], ◌∷◌, refl, sym, ap, ◌∙◌, subst, arith, length, min, max, Option, None}
use Rattle.std.specs.Prelude.{◌&&◌, ◌||◌, not, nat_eq, filter, unwrap_or}
use Rattle.std.specs.List.{list_any}
use Rattle.repair_core.specs.declared.slots.Slot.{Slot}
use Rattle.repair_core.specs.RegisterState.{RegisterState}
use Rattle.repair_core.specs.Fresh.{greatest}
use Rattle.repair_core.specs.Slots.{known, slot_needs, latest_in}
use Rattle.repair_core.specs.Rounds.{Heard, taken, in_gap, asked, numbers_up, lowest, candidates, candidates_in, gap_in, is_pending, later, latest_ask, grace_of, moment_after, deadline}
use Rattle.repair_core.specs.NackRegister.{IsKept, Keeps, StandsFor, Remembers, window_in, needs_any, last_ask, give_up}
use Rattle.repair_core.proofs.RegisterLaws.{kept_at}
use Rattle.repair_core.proofs.RoundLaws.{holds_known, gap_inside, numbers_next}

-- two tests that agree on the numbers of a range
any_same : (count k : ℕ) (p q : ℕ → Bool) → ((j : ℕ) → k ≤ j → j < k + count → p j ≡ q j) → list_any p (numbers_up count k) ≡ list_any q (numbers_up count k)
any_same zero k p q same = refl
any_same (suc count) k p q same =
    ap (λ (b : Bool). b || list_any p (numbers_up count (k + 1))) (same k (omega arith) (omega arith))
    ∙ ap (λ (b : Bool). q k || b) (any_same count (k + 1) p q (λ j from to. same j (omega arith) (omega arith)))

needs_here : (r : RegisterState) (x : ℕ) (xs : List ℕ) (past : Heard) (k : ℕ) → taken past ≡ x ∷ xs → Keeps r x (taken past) → Remembers r past → max x (greatest (taken past) - 100) ≤ k → k < greatest (taken past)
    → slot_needs (known r.slots k) ≡ (in_gap (taken past) k && ltb (asked past k).0 5)
needs_here r x xs past k shape keeps m low high = pick (list_any (nat_eq k) (taken past)) refl where
  near : greatest (taken past) ≤ k + 100
  near = omega arith

  known_taken : (known r.slots k).taken ≡ list_any (nat_eq k) (taken past)
  known_taken = sym (holds_known r.slots k) ∙ kept_at r x (taken past) keeps k near

  pick : (b : Bool) → list_any (nat_eq k) (taken past) ≡ b → slot_needs (known r.slots k) ≡ (in_gap (taken past) k && ltb (asked past k).0 5)
  pick true t =
      ap (λ (c : Bool). not c && ltb (known r.slots k).asks 5) (known_taken ∙ t)
      ∙ sym (ap (λ (c : Bool). c && ltb (asked past k).0 5) (gap_inside (taken past) x xs k shape low high ∙ ap not t))
  pick false t =
      ap (λ (c : Bool). not c && ltb (known r.slots k).asks 5) (known_taken ∙ t)
      ∙ ap (λ (p : ℕ × ℕ). ltb p.0 5) (m.asks k t near)
      ∙ sym (ap (λ (c : Bool). c && ltb (asked past k).0 5) (gap_inside (taken past) x xs k shape low high ∙ ap not t))

abbrev range_from : ℕ → ℕ → ℕ → ℕ → List ℕ
range_from f g from to = numbers_up (min g to - max (max f (g - 100)) from) (max (max f (g - 100)) from)

abbrev is_open : Heard → ℕ → Bool
is_open past k = in_gap (taken past) k && ltb (asked past k).0 5

range_is : (r : RegisterState) (x : ℕ) (l : List ℕ) (from to : ℕ) → Keeps r x l → window_in r from to ≡ range_from x (greatest l) from to
range_is r x l from to keeps = ap (λ (f : ℕ). range_from f r.greatest from to) keeps.low ∙ ap (λ (n : ℕ). range_from x n from to) keeps.high

wanted_is : (x : ℕ) (xs l : List ℕ) (from to : ℕ) → l ≡ x ∷ xs → candidates_in l from to ≡ range_from x (greatest l) from to
wanted_is x xs l from to shape = ap (λ (k : List ℕ). candidates_in k from to) shape ∙ ap (λ (k : List ℕ). range_from x (greatest k) from to) (sym shape)

none_wanted : (from to : ℕ) → candidates_in [] from to ≡ []
none_wanted from to = let none : min 0 to - max 0 from ≡ 0 = omega arith in ap (λ (n : ℕ). numbers_up n (max 0 from)) none

pub needs_in : (r : RegisterState) (past : Heard) (from to : ℕ) → Remembers r past → needs_any r from to ≡ list_any (is_open past) (candidates_in (taken past) from to)
unfolding StandsFor
needs_in r past from to m = pick (taken past) refl m.stands where
  pick : (l : List ℕ) → taken past ≡ l → (length r.slots ≡ 101) × IsKept r l → needs_any r from to ≡ list_any (is_open past) (candidates_in (taken past) from to)
  pick [] shape h =
      ap (λ (b : Bool). b && list_any (λ k. slot_needs (known r.slots k)) (window_in r from to)) h.1.0
      ∙ sym (ap (λ (l : List ℕ). list_any (is_open past) (candidates_in l from to)) shape ∙ ap (λ (l : List ℕ). list_any (is_open past) l) (none_wanted from to))
  pick (x ∷ xs) shape h =
      let keeps : Keeps r x (taken past) = subst (λ (l : List ℕ). Keeps r x l) (sym shape) h.1 in
      let g = greatest (taken past) in
      ap (λ (b : Bool). b && list_any (λ k. slot_needs (known r.slots k)) (window_in r from to)) keeps.begun
      ∙ ap (λ (w : List ℕ). list_any (λ k. slot_needs (known r.slots k)) w) (range_is r x (taken past) from to keeps)
      ∙ any_same (min g to - max (max x (g - 100)) from) (max (max x (g - 100)) from) (λ k. slot_needs (known r.slots k)) (is_open past)
      (λ j low high. needs_here r x xs past j shape keeps m (omega arith) (omega arith))
      ∙ sym (ap (λ (w : List ℕ). list_any (is_open past) w) (wanted_is x xs (taken past) from to shape))

pub pending_is : (r : RegisterState) (past : Heard) → Remembers r past → needs_any r 0 r.greatest ≡ is_pending past
unfolding StandsFor
pending_is r past m = needs_in r past 0 r.greatest m ∙ pick (taken past) refl m.stands where
  pick : (l : List ℕ) → taken past ≡ l → (length r.slots ≡ 101) × IsKept r l → list_any (is_open past) (candidates_in (taken past) 0 r.greatest) ≡ list_any (is_open past) (candidates (taken past))
  pick [] shape h =
      ap (λ (l : List ℕ). list_any (is_open past) (candidates_in l 0 r.greatest)) shape ∙ ap (λ (l : List ℕ). list_any (is_open past) l) (none_wanted 0 r.greatest)
      ∙ sym (ap (λ (l : List ℕ). list_any (is_open past) (candidates l)) shape)
  pick (x ∷ xs) shape h =
      let high : r.greatest ≡ greatest (taken past) = h.1.high ∙ ap greatest (sym shape) in
      ap (λ (n : ℕ). list_any (is_open past) (candidates_in (taken past) 0 n)) high
      ∙ whole (taken past) where
        whole : (l : List ℕ) → list_any (is_open past) (candidates_in l 0 (greatest l)) ≡ list_any (is_open past) (candidates l)
        whole l = bounds (greatest l) (lowest l) where
          bounds : (g low : ℕ) → list_any (is_open past) (numbers_up (min g g - max low 0) (max low 0)) ≡ list_any (is_open past) (numbers_up (g - low) low)
          bounds g low = let a : max low 0 ≡ low = omega arith in let b : min g g ≡ g = omega arith in rw (a, b) refl

any_filter : (p q : ℕ → Bool) (xs : List ℕ) → list_any p (filter q xs) ≡ list_any (λ k. q k && p k) xs
any_filter p q [] = refl
any_filter p q (x ∷ xs) = pick (q x) (any_filter p q xs) where
  pick : (b : Bool) → list_any p (filter q xs) ≡ list_any (λ k. q k && p k) xs → list_any p (cond b (x ∷ filter q xs) (filter q xs)) ≡ ((b && p x) || list_any (λ k. q k && p k) xs)
  pick true rest = ap (λ (c : Bool). p x || c) rest
  pick false rest = rest

-- the latest ask
latest_next : (r : RegisterState) (x : ℕ) (xs : List ℕ) (past : Heard) (o : Option ℕ) (k : ℕ) → taken past ≡ x ∷ xs → Keeps r x (taken past) → Remembers r past → max x (greatest (taken past) - 100) ≤ k → k < greatest (taken past)
    → cond (known r.slots k).taken o (later o (known r.slots k).last) ≡ cond (in_gap (taken past) k) (later o (asked past k).1) o
latest_next r x xs past o k shape keeps m low high = pick (list_any (nat_eq k) (taken past)) refl where
  near : greatest (taken past) ≤ k + 100
  near = omega arith

  known_taken : (known r.slots k).taken ≡ list_any (nat_eq k) (taken past)
  known_taken = sym (holds_known r.slots k) ∙ kept_at r x (taken past) keeps k near

  inside : in_gap (taken past) k ≡ not (list_any (nat_eq k) (taken past))
  inside = gap_inside (taken past) x xs k shape low high

  pick : (b : Bool) → list_any (nat_eq k) (taken past) ≡ b → cond (known r.slots k).taken o (later o (known r.slots k).last) ≡ cond (in_gap (taken past) k) (later o (asked past k).1) o
  pick true t =
      ap (λ (c : Bool). cond c o (later o (known r.slots k).last)) (known_taken ∙ t)
      ∙ sym (ap (λ (c : Bool). cond c (later o (asked past k).1) o) (inside ∙ ap not t))
  pick false t =
      ap (λ (c : Bool). cond c o (later o (known r.slots k).last)) (known_taken ∙ t)
      ∙ ap (λ (p : ℕ × ℕ). later o p.1) (m.asks k t near)
      ∙ sym (ap (λ (c : Bool). cond c (later o (asked past k).1) o) (inside ∙ ap not t))

latest_filter : (past : Heard) (q : ℕ → Bool) (o : Option ℕ) (k : ℕ) (ks : List ℕ) → latest_ask past o (filter q (k ∷ ks)) ≡ latest_ask past (cond (q k) (later o (asked past k).1) o) (filter q ks)
latest_filter past q o k ks = pick (q k) where
  pick : (b : Bool) → latest_ask past o (cond b (k ∷ filter q ks) (filter q ks)) ≡ latest_ask past (cond b (later o (asked past k).1) o) (filter q ks)
  pick true = refl
  pick false = refl

latest_all : (count : ℕ) (r : RegisterState) (x : ℕ) (xs : List ℕ) (past : Heard) (o : Option ℕ) (k : ℕ) → taken past ≡ x ∷ xs → Keeps r x (taken past) → Remembers r past → max x (greatest (taken past) - 100) ≤ k
    → ((j : ℕ) → k ≤ j → j < k + count → j < greatest (taken past)) → latest_in r.slots o (numbers_up count k) ≡ latest_ask past o (filter (in_gap (taken past)) (numbers_up count k))
latest_all zero r x xs past o k shape keeps m low high = refl
latest_all (suc count) r x xs past o k shape keeps m low high =
    let here = latest_next r x xs past o k shape keeps m low (high k (omega arith) (omega arith)) in
    ap (λ (p : Option ℕ). latest_in r.slots p (numbers_up count (k + 1))) here
    ∙ latest_all count r x xs past (cond (in_gap (taken past) k) (later o (asked past k).1) o) (k + 1) shape keeps m (omega arith) (λ j from to. high j (omega arith) (omega arith))
    ∙ sym (latest_filter past (in_gap (taken past)) o k (numbers_up count (k + 1)))

last_in : (r : RegisterState) (past : Heard) (from to : ℕ) → Remembers r past → last_ask r from to ≡ latest_ask past None (gap_in (taken past) from to)
unfolding StandsFor
last_in r past from to m = pick (taken past) refl m.stands where
  pick : (l : List ℕ) → taken past ≡ l → (length r.slots ≡ 101) × IsKept r l → last_ask r from to ≡ latest_ask past None (gap_in (taken past) from to)
  pick [] shape h =
      ap (λ (b : Bool). cond b (latest_in r.slots None (window_in r from to)) None) h.1.0
      ∙ sym (ap (λ (l : List ℕ). latest_ask past None (gap_in l from to)) shape ∙ ap (λ (l : List ℕ). latest_ask past None (filter (in_gap []) l)) (none_wanted from to))
  pick (x ∷ xs) shape h =
      let keeps : Keeps r x (taken past) = subst (λ (l : List ℕ). Keeps r x l) (sym shape) h.1 in
      let g = greatest (taken past) in
      ap (λ (b : Bool). cond b (latest_in r.slots None (window_in r from to)) None) keeps.begun
      ∙ ap (λ (w : List ℕ). latest_in r.slots None w) (range_is r x (taken past) from to keeps)
      ∙ latest_all (min g to - max (max x (g - 100)) from) r x xs past None (max (max x (g - 100)) from) shape keeps m (omega arith) (λ j low high. omega arith)
      ∙ sym (ap (λ (w : List ℕ). latest_ask past None (filter (in_gap (taken past)) w)) (wanted_is x xs (taken past) from to shape))

pub give_up_is : (r : RegisterState) (past : Heard) (from to received : ℕ) (trip : Option ℕ) → Remembers r past → give_up r from to received trip ≡ deadline past from to received trip
give_up_is r past from to received trip m =
    ap (λ (b : Bool). cond b None (moment_after (unwrap_or (last_ask r from to) received) (grace_of trip)))
    (needs_in r past from to m ∙ sym (any_filter (λ k. ltb (asked past k).0 5) (in_gap (taken past)) (candidates_in (taken past) from to)))
    ∙ ap (λ (o : Option ℕ). cond (list_any (λ k. ltb (asked past k).0 5) (gap_in (taken past) from to)) None (moment_after (unwrap_or o received) (grace_of trip)))
    (last_in r past from to m)

-- steps of the look
pub any_next : (slots : List Slot) (g k : ℕ) → k < g → slot_needs (known slots k) ≡ false → list_any (λ n. slot_needs (known slots n)) (numbers_up (g - k) k) ≡ list_any (λ n. slot_needs (known slots n)) (numbers_up (g - (k + 1)) (k + 1))
any_next slots g k lt no_need =
    ap (λ (l : List ℕ). list_any (λ n. slot_needs (known slots n)) l) (numbers_next g k lt)
    ∙ ap (λ (b : Bool). b || list_any (λ n. slot_needs (known slots n)) (numbers_up (g - (k + 1)) (k + 1))) no_need

pub any_found : (slots : List Slot) (g k : ℕ) → k < g → slot_needs (known slots k) ≡ true → list_any (λ n. slot_needs (known slots n)) (numbers_up (g - k) k) ≡ true
any_found slots g k lt need =
    ap (λ (l : List ℕ). list_any (λ n. slot_needs (known slots n)) l) (numbers_next g k lt)
    ∙ ap (λ (b : Bool). b || list_any (λ n. slot_needs (known slots n)) (numbers_up (g - (k + 1)) (k + 1))) need

pub latest_step : (slots : List Slot) (o : Option ℕ) (g k : ℕ) → k < g → latest_in slots o (numbers_up (g - k) k) ≡ latest_in slots (cond (known slots k).taken o (later o (known slots k).last)) (numbers_up (g - (k + 1)) (k + 1))
latest_step slots o g k lt = ap (λ (l : List ℕ). latest_in slots o l) (numbers_next g k lt)

pub later_step : (s u : Slot) (o : Option ℕ) → s ≡ u → not s.taken ≡ true → later o s.last ≡ cond u.taken o (later o u.last)
later_step s u o is free = ap (λ (v : Slot). later o v.last) is ∙ pick u.taken (sym (ap (λ (v : Slot). not v.taken) is) ∙ free) where
  pick : (b : Bool) → not b ≡ true → later o u.last ≡ cond b o (later o u.last)
  pick true t = absurd (let not_so : false ≡ true = t in cc)
  pick false t = refl

pub same_step : (s u : Slot) (o : Option ℕ) → s ≡ u → not s.taken ≡ false → o ≡ cond u.taken o (later o u.last)
same_step s u o is full = pick u.taken (sym (ap (λ (v : Slot). not v.taken) is) ∙ full) where
  pick : (b : Bool) → not b ≡ false → o ≡ cond b o (later o u.last)
  pick true t = refl
  pick false t = absurd (let not_so : true ≡ false = t in cc)
