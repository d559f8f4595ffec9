-- A round asks for the numbers that are due, read off what the register was told.
use Rattle.std.proofs.Common.{◌≡◌, ◌≢◌, ℕ, zero, suc, ◌+◌, ◌-◌, ◌%◌, ◌<◌, ◌≤◌, Bool, true, false, cond, eqb, ltb, leb, List, [], ◌∷◌, ◌++◌, refl, sym, ap, ◌∙◌, subst, arith, length, replicate, max, ⊎_elim, Option, Some, None}
use Rattle.std.specs.Prelude.{◌&&◌, ◌||◌, not, nat_eq, slice_index_or, slice_set, filter}
use Rattle.std.specs.List.{list_any}
use Rattle.std.proofs.lemmas.Bool.Decides.{nat_tests}
use Rattle.std.proofs.lemmas.List.{get_or-set_other, get_or-set_same, get_or-replicate, length-set}
use Rattle.std.proofs.lemmas.Bool.{cases_eq, cases_lt}
use Rattle.repair_core.specs.declared.slots.Slot.{Slot}
use Rattle.repair_core.specs.RegisterState.{RegisterState}
use Rattle.repair_core.specs.Fresh.{greatest, is_fresh, with_number}
use Rattle.repair_core.specs.Slots.{no_slot, taken_slot, holds, untouched, known_in, known, asks_at, slot_due, asked_slot, ask, ask_all, due_in}
use Rattle.repair_core.specs.Rounds.{Heard, started_at, came, round, taken, in_gap, may_ask, asked, is_due, numbers_up, candidates, due}
use Rattle.repair_core.specs.declared.missing.Missing.{Missing}
use Rattle.repair_core.specs.Entries.{IsPacking}
use Rattle.repair_core.specs.NackRegister.{IsKept, Keeps, StandsFor, put_number, started, Remembers, window_of, with_round, round_due}
use Rattle.repair_core.proofs.RegisterLaws.{greatest-push, any_push, kept_at, apart, fresh_near, blank_stands, put_number_is}

-- what is known of a number whose slot was written
known_same : (slots : List Slot) (k : ℕ) (s : Slot) → length slots ≡ 101 → s.number ≡ k → known (slice_set slots (k % 101) s) k ≡ s
known_same slots k s long is =
    let within : k % 101 < length slots = omega arith in
    rw (get_or-set_same slots (k % 101) s no_slot within, is) (grind (arith, nat_tests))

known_far : (slots : List Slot) (k n : ℕ) (s : Slot) → k % 101 ≢ n % 101 → known (slice_set slots (n % 101) s) k ≡ known slots k
known_far slots k n s far = ap (λ (x : Slot). known_in x k) (get_or-set_other slots (n % 101) (k % 101) s no_slot far)

known_over : (slots : List Slot) (k n : ℕ) (s : Slot) → length slots ≡ 101 → k % 101 ≡ n % 101 → s.number ≢ k → known (slice_set slots (n % 101) s) k ≡ untouched k
known_over slots k n s long is ne =
    let within : n % 101 < length slots = omega arith in
    rw (is, get_or-set_same slots (n % 101) s no_slot within) (grind (arith, nat_tests))

pub holds_known : (slots : List Slot) (k : ℕ) → holds slots k ≡ (known slots k).taken
holds_known slots k = pick (slice_index_or slots (k % 101) no_slot) where
  pick : (s : Slot) → (s.taken && eqb s.number k) ≡ (known_in s k).taken
  pick s = choose (eqb s.number k) where
    choose : (b : Bool) → (s.taken && b) ≡ (cond b s (untouched k)).taken
    choose true = and_true s.taken where
      and_true : (a : Bool) → (a && true) ≡ a
      and_true true = refl
      and_true false = refl
    choose false = and_false s.taken where
      and_false : (a : Bool) → (a && false) ≡ false
      and_false true = refl
      and_false false = refl

-- a number above the greatest was never asked for
greatest_grows : (l : List ℕ) (n : ℕ) → greatest l ≤ greatest (with_number l n)
greatest_grows l n = pick (is_fresh l n) where
  pick : (b : Bool) → greatest l ≤ greatest (cond b (l ++ n ∷ []) l)
  pick true = omega (arith, greatest-push l n)
  pick false = omega arith

gap_below : (l : List ℕ) (k : ℕ) → greatest l ≤ k → in_gap l k ≡ false
gap_below [] k h = refl
gap_below (x ∷ xs) k h = grind (arith, nat_tests)

never : (past : Heard) (k : ℕ) → greatest (taken past) < k → asked past k ≡ (0, 0)
never (started_at o) k h = refl
never (came past n) k h = never past k (omega (arith, greatest_grows (taken past) n))
never (round past now wait) k h =
    ap (λ (b : Bool). cond (b && may_ask (asked past k) now wait) ((asked past k).0 + 1, now) (asked past k)) (gap_below (taken past) k (omega arith)) ∙ never past k h

-- how often a number was asked for, where a round came to the number k
abbrev asked_until : Heard → ℕ → ℕ → ℕ → ℕ → ℕ × ℕ
asked_until past now wait k j = cond (ltb j k && is_due past now wait j) ((asked past j).0 + 1, now) (asked past j)

until_step : (past : Heard) (now wait k j : ℕ) → j ≢ k → asked_until past now wait (k + 1) j ≡ asked_until past now wait k j
until_step past now wait k j ne =
    let same : ltb j (k + 1) ≡ ltb j k = grind (arith, nat_tests) in
    ap (λ (b : Bool). cond (b && is_due past now wait j) ((asked past j).0 + 1, now) (asked past j)) same

until_here : (past : Heard) (now wait k : ℕ) → asked_until past now wait (k + 1) k ≡ cond (is_due past now wait k) ((asked past k).0 + 1, now) (asked past k)
until_here past now wait k =
    let less : ltb k (k + 1) ≡ true = grind (arith, nat_tests) in
    ap (λ (b : Bool). cond (b && is_due past now wait k) ((asked past k).0 + 1, now) (asked past k)) less

until_start : (past : Heard) (now wait k : ℕ) → asked_until past now wait k k ≡ asked past k
until_start past now wait k =
    let not_less : ltb k k ≡ false = grind (arith, nat_tests) in
    ap (λ (b : Bool). cond (b && is_due past now wait k) ((asked past k).0 + 1, now) (asked past k)) not_less

until_above : (past : Heard) (now wait k j : ℕ) → greatest (taken past) < j → asked_until past now wait k j ≡ (0, 0)
until_above past now wait k j above =
    above_pick (ltb j k) ∙ never past j above where
      above_pick : (b : Bool) → cond (b && is_due past now wait j) ((asked past j).0 + 1, now) (asked past j) ≡ asked past j
      above_pick false = refl
      above_pick true = ap (λ (c : Bool). cond (c && may_ask (asked past j) now wait) ((asked past j).0 + 1, now) (asked past j)) (gap_below (taken past) j (omega arith))

record IsAsked (r : RegisterState) (past : Heard) (now wait k : ℕ) (slots : List Slot) : Type 0 where
  long : length slots ≡ 101
  same : (j : ℕ) → greatest (taken past) ≤ j + 100 → holds slots j ≡ holds r.slots j
  until : (j : ℕ) → list_any (nat_eq j) (taken past) ≡ false → greatest (taken past) ≤ j + 100 → asks_at slots j ≡ asked_until past now wait k j

pub gap_inside : (l : List ℕ) (x : ℕ) (xs : List ℕ) (k : ℕ) → l ≡ x ∷ xs → max x (greatest l - 100) ≤ k → k < greatest l → in_gap l k ≡ not (list_any (nat_eq k) l)
gap_inside l x xs k is low high =
    subst (λ (m : List ℕ). max x (greatest m - 100) ≤ k → k < greatest m → in_gap m k ≡ not (list_any (nat_eq k) m)) (sym is) (inside x xs k) low high where
      inside : (x : ℕ) (xs : List ℕ) (k : ℕ) → max x (greatest (x ∷ xs) - 100) ≤ k → k < greatest (x ∷ xs) → in_gap (x ∷ xs) k ≡ not (list_any (nat_eq k) (x ∷ xs))
      inside x xs k low high =
          let a : leb x k ≡ true = grind (arith, nat_tests) in
          let b : leb (greatest (x ∷ xs)) (k + 100) ≡ true = grind (arith, nat_tests) in
          let c : ltb k (greatest (x ∷ xs)) ≡ true = grind (arith, nat_tests) in
          rw (a, b, c) refl

step_idle : (r : RegisterState) (past : Heard) (now wait k : ℕ) (slots : List Slot) → slot_due (known slots k) now wait ≡ false → is_due past now wait k ≡ false → IsAsked r past now wait k slots → IsAsked r past now wait (k + 1) (ask now wait slots k)
step_idle r past now wait k slots idle no_due a =
    let stays : ask now wait slots k ≡ slots = ap (λ (b : Bool). cond b (slice_set slots (k % 101) (asked_slot (known slots k) k now)) slots) idle in
    subst (λ (s : List Slot). IsAsked r past now wait (k + 1) s) (sym stays)
    (record {
      long = a.long;
      same = a.same;
      until = λ j free near. a.until j free near ∙ ⊎_elim (λ (e : j ≡ k). subst (λ (i : ℕ). asked_until past now wait k i ≡ asked_until past now wait (k + 1) i) (sym e) here) (λ (ne : j ≢ k). sym (until_step past now wait k j ne)) (cases_eq j k);
    }) where
      here : asked_until past now wait k k ≡ asked_until past now wait (k + 1) k
      here = until_start past now wait k ∙ sym (until_here past now wait k ∙ ap (λ (b : Bool). cond b ((asked past k).0 + 1, now) (asked past k)) no_due)

step_asks : (r : RegisterState) (x : ℕ) (past : Heard) (now wait k : ℕ) (slots : List Slot) → Keeps r x (taken past) → list_any (nat_eq k) (taken past) ≡ false → k < greatest (taken past) → greatest (taken past) ≤ k + 100
    → slot_due (known slots k) now wait ≡ true → is_due past now wait k ≡ true → IsAsked r past now wait k slots → IsAsked r past now wait (k + 1) (ask now wait slots k)
step_asks r x past now wait k slots keeps free_k high near_k busy is_due_k a =
    let goes : ask now wait slots k ≡ slice_set slots (k % 101) new = ap (λ (b : Bool). cond b (slice_set slots (k % 101) new) slots) busy in
    subst (λ (s : List Slot). IsAsked r past now wait (k + 1) s) (sym goes)
    (record {
      long = length-set slots (k % 101) new ∙ a.long;
      same = λ j near. same_at j near;
      until = λ j free near. until_at j free near;
    }) where
      new : Slot
      new = asked_slot (known slots k) k now

      over : (j : ℕ) → j ≢ k → j % 101 ≡ k % 101 → greatest (taken past) ≤ j + 100 → greatest (taken past) < j
      over j ne is near = ⊎_elim (λ (lt : greatest (taken past) < j). lt) (λ (le : j ≤ greatest (taken past)). absurd (apart j k ne (omega arith) (omega arith) is)) (cases_lt (greatest (taken past)) j)

      same_at : (j : ℕ) → greatest (taken past) ≤ j + 100 → holds (slice_set slots (k % 101) (asked_slot (known slots k) k now)) j ≡ holds r.slots j
      same_at j near =
          ⊎_elim
          (λ (e : j ≡ k).
          let mine : holds (slice_set slots (k % 101) (asked_slot (known slots k) k now)) k ≡ false = holds_known (slice_set slots (k % 101) (asked_slot (known slots k) k now)) k ∙ ap (λ (s : Slot). s.taken) (known_same slots k (asked_slot (known slots k) k now) a.long refl) in
          subst (λ (i : ℕ). holds (slice_set slots (k % 101) (asked_slot (known slots k) k now)) i ≡ holds r.slots i) (sym e) (mine ∙ sym (kept_at r x (taken past) keeps k near_k ∙ free_k)))
          (λ (ne : j ≢ k).
          ⊎_elim
          (λ (is : j % 101 ≡ k % 101).
          holds_known (slice_set slots (k % 101) (asked_slot (known slots k) k now)) j ∙ ap (λ (s : Slot). s.taken) (known_over slots j k (asked_slot (known slots k) k now) a.long is (λ e. ne (sym e))) ∙ sym (keeps.below j (over j ne is near)))
          (λ (far : j % 101 ≢ k % 101).
          holds_known (slice_set slots (k % 101) (asked_slot (known slots k) k now)) j ∙ ap (λ (s : Slot). s.taken) (known_far slots j k (asked_slot (known slots k) k now) far) ∙ sym (holds_known slots j) ∙ a.same j near)
          (cases_eq (j % 101) (k % 101)))
          (cases_eq j k)

      until_at : (j : ℕ) → list_any (nat_eq j) (taken past) ≡ false → greatest (taken past) ≤ j + 100 → asks_at (slice_set slots (k % 101) (asked_slot (known slots k) k now)) j ≡ asked_until past now wait (k + 1) j
      until_at j free near =
          ⊎_elim
          (λ (e : j ≡ k).
          let old : asks_at slots k ≡ asked past k = a.until k free_k near_k ∙ until_start past now wait k in
          let mine : asks_at (slice_set slots (k % 101) (asked_slot (known slots k) k now)) k ≡ ((asked past k).0 + 1, now) =
          ap (λ (s : Slot). (s.asks, s.last)) (known_same slots k (asked_slot (known slots k) k now) a.long refl) ∙ ap (λ (p : ℕ × ℕ). (p.0 + 1, now)) old in
          subst (λ (i : ℕ). asks_at (slice_set slots (k % 101) (asked_slot (known slots k) k now)) i ≡ asked_until past now wait (k + 1) i) (sym e)
          (mine ∙ sym (until_here past now wait k ∙ ap (λ (b : Bool). cond b ((asked past k).0 + 1, now) (asked past k)) is_due_k)))
          (λ (ne : j ≢ k).
          ⊎_elim
          (λ (is : j % 101 ≡ k % 101).
          ap (λ (s : Slot). (s.asks, s.last)) (known_over slots j k (asked_slot (known slots k) k now) a.long is (λ e. ne (sym e))) ∙ sym (until_above past now wait (k + 1) j (over j ne is near)))
          (λ (far : j % 101 ≢ k % 101).
          ap (λ (s : Slot). (s.asks, s.last)) (known_far slots j k (asked_slot (known slots k) k now) far) ∙ a.until j free near ∙ sym (until_step past now wait k j ne))
          (cases_eq (j % 101) (k % 101)))
          (cases_eq j k)

due_here : (r : RegisterState) (x : ℕ) (xs : List ℕ) (past : Heard) (now wait k : ℕ) (slots : List Slot) → taken past ≡ x ∷ xs → Keeps r x (taken past) → max x (greatest (taken past) - 100) ≤ k → k < greatest (taken past) → IsAsked r past now wait k slots
    → slot_due (known slots k) now wait ≡ is_due past now wait k
due_here r x xs past now wait k slots shape keeps low high a = pick (list_any (nat_eq k) (taken past)) refl where
  near : greatest (taken past) ≤ k + 100
  near = omega arith

  known_taken : (known slots k).taken ≡ list_any (nat_eq k) (taken past)
  known_taken = sym (holds_known slots k) ∙ a.same k near ∙ kept_at r x (taken past) keeps k near

  pick : (b : Bool) → list_any (nat_eq k) (taken past) ≡ b → slot_due (known slots k) now wait ≡ is_due past now wait k
  pick true t =
      ap (λ (c : Bool). not c && may_ask ((known slots k).asks, (known slots k).last) now wait) (known_taken ∙ t)
      ∙ sym (ap (λ (c : Bool). c && may_ask (asked past k) now wait) (gap_inside (taken past) x xs k shape low high ∙ ap not t))
  pick false t =
      ap (λ (c : Bool). not c && may_ask ((known slots k).asks, (known slots k).last) now wait) (known_taken ∙ t)
      ∙ ap (λ (p : ℕ × ℕ). may_ask p now wait) (a.until k t near ∙ until_start past now wait k)
      ∙ sym (ap (λ (c : Bool). c && may_ask (asked past k) now wait) (gap_inside (taken past) x xs k shape low high ∙ ap not t))

step : (r : RegisterState) (x : ℕ) (xs : List ℕ) (past : Heard) (now wait k : ℕ) (slots : List Slot) → taken past ≡ x ∷ xs → Keeps r x (taken past) → max x (greatest (taken past) - 100) ≤ k → k < greatest (taken past) → IsAsked r past now wait k slots → IsAsked r past now wait (k + 1) (ask now wait slots k)
step r x xs past now wait k slots shape keeps low high a = pick (list_any (nat_eq k) (taken past)) (is_due past now wait k) refl refl where
  near : greatest (taken past) ≤ k + 100
  near = omega arith

  same : slot_due (known slots k) now wait ≡ is_due past now wait k
  same = due_here r x xs past now wait k slots shape keeps low high a

  pick : (b d : Bool) → list_any (nat_eq k) (taken past) ≡ b → is_due past now wait k ≡ d → IsAsked r past now wait (k + 1) (ask now wait slots k)
  pick b false t u = step_idle r past now wait k slots (same ∙ u) u a
  pick false true t u = step_asks r x past now wait k slots keeps t high near (same ∙ u) u a
  pick true true t u =
      let not_gap : is_due past now wait k ≡ false = ap (λ (c : Bool). c && may_ask (asked past k) now wait) (gap_inside (taken past) x xs k shape low high ∙ ap not t) in
      step_idle r past now wait k slots (same ∙ not_gap) not_gap a

-- a whole round
run : (count : ℕ) (r : RegisterState) (x : ℕ) (xs : List ℕ) (past : Heard) (now wait k : ℕ) (slots : List Slot) → taken past ≡ x ∷ xs → Keeps r x (taken past) → max x (greatest (taken past) - 100) ≤ k → k + count ≡ greatest (taken past) → IsAsked r past now wait k slots
    → (due_in now wait slots (numbers_up count k) ≡ filter (is_due past now wait) (numbers_up count k)) × IsAsked r past now wait (greatest (taken past)) (ask_all now wait slots (numbers_up count k))
run zero r x xs past now wait k slots shape keeps low at a = (refl, subst (λ (i : ℕ). IsAsked r past now wait i slots) (let e : k ≡ greatest (taken past) = omega arith in e) a)
run (suc count) r x xs past now wait k slots shape keeps low at a =
    let high : k < greatest (taken past) = omega arith in
    let here = due_here r x xs past now wait k slots shape keeps low high a in
    let next = step r x xs past now wait k slots shape keeps low high a in
    let rest = run count r x xs past now wait (k + 1) (ask now wait slots k) shape keeps (omega arith) (omega arith) next in (
      ap (λ (b : Bool). cond b (k ∷ due_in now wait (ask now wait slots k) (numbers_up count (k + 1))) (due_in now wait (ask now wait slots k) (numbers_up count (k + 1)))) here
          ∙ ap (λ (l : List ℕ). cond (is_due past now wait k) (k ∷ l) l) rest.0,
      rest.1,
    )

-- steps of the loop
pub numbers_next : (g k : ℕ) → k < g → numbers_up (g - k) k ≡ k ∷ numbers_up (g - (k + 1)) (k + 1)
numbers_next g k lt = let one : g - k ≡ suc (g - (k + 1)) = omega arith in ap (λ (n : ℕ). numbers_up n k) one

pub slots_only : (a b c : RegisterState) (s : List Slot) → a ≡ record b { slots = s } → b ≡ record c { slots = b.slots } → a ≡ record c { slots = a.slots }
slots_only a b c s e f = e ∙ ap (λ (r : RegisterState). record r { slots = s }) f ∙ sym (ap (λ (t : List Slot). record c { slots = t }) (ap (λ (r : RegisterState). r.slots) e))

pub packing_more : (low before k n : ℕ) (o : Option Missing) → IsPacking low before k o n → IsPacking low before (k + 1) o n
packing_more low before k n None h = h
packing_more low before k n (Some m) h = (omega (arith, h.0), h.1, h.2)

-- the slots before a round
until_low : (past : Heard) (x : ℕ) (xs : List ℕ) (now wait low j : ℕ) → taken past ≡ x ∷ xs → low ≡ max x (greatest (taken past) - 100) → greatest (taken past) ≤ j + 100 → asked_until past now wait low j ≡ asked past j
until_low past x xs now wait low j shape is near = pick (ltb j low) refl where
  no_gap : j < low → in_gap (taken past) j ≡ false
  no_gap lt = subst (λ (l : List ℕ). in_gap l j ≡ false) (sym shape) (out x xs j (omega arith)) where
    out : (x : ℕ) (xs : List ℕ) (j : ℕ) → j < x → in_gap (x ∷ xs) j ≡ false
    out x xs j lt = let a : leb x j ≡ false = grind (arith, nat_tests) in rw a refl

  pick : (b : Bool) → ltb j low ≡ b → cond (b && is_due past now wait j) ((asked past j).0 + 1, now) (asked past j) ≡ asked past j
  pick false t = refl
  pick true t =
      let lt : j < low = grind (arith, nat_tests) in
      ap (λ (c : Bool). cond (c && may_ask (asked past j) now wait) ((asked past j).0 + 1, now) (asked past j)) (no_gap lt)

until_end : (past : Heard) (now wait j : ℕ) → asked_until past now wait (greatest (taken past)) j ≡ asked (round past now wait) j
until_end past now wait j = pick (ltb j (greatest (taken past))) refl where
  pick : (b : Bool) → ltb j (greatest (taken past)) ≡ b → cond (b && is_due past now wait j) ((asked past j).0 + 1, now) (asked past j) ≡ asked (round past now wait) j
  pick true t = refl
  pick false t =
      let le : greatest (taken past) ≤ j = grind (arith, nat_tests) in
      sym (ap (λ (c : Bool). cond (c && may_ask (asked past j) now wait) ((asked past j).0 + 1, now) (asked past j)) (gap_below (taken past) j le))

abbrev window_from : ℕ → ℕ → List ℕ
window_from f g = numbers_up (g - max f (g - 100)) (max f (g - 100))

asked_stands : (r : RegisterState) (x : ℕ) (xs : List ℕ) (past : Heard) (now wait : ℕ) (slots : List Slot) → taken past ≡ x ∷ xs → Keeps r x (taken past) → IsAsked r past now wait (greatest (taken past)) slots → Remembers (record r { slots = slots }) (round past now wait)
unfolding StandsFor
asked_stands r x xs past now wait slots shape keeps a = record {
  stands = (a.long, subst (λ (l : List ℕ). IsKept (record r { slots = slots }) l) (sym shape) (subst (λ (l : List ℕ). Keeps (record r { slots = slots }) x l) shape kept));
  asks = λ k free near. a.until k free near ∙ until_end past now wait k;
} where
  kept : Keeps (record r { slots = slots }) x (taken past)
  kept = record {
    begun = keeps.begun;
    low = keeps.low;
    high = keeps.high;
    window = λ k le near. a.same k near ∙ keeps.window k le near;
    below = λ k lt. a.same k (omega arith) ∙ keeps.below k lt;
  }

pub round_is : (r : RegisterState) (past : Heard) (now wait : ℕ) → Remembers r past → Remembers (with_round r now wait) (round past now wait) × (round_due r now wait ≡ due past now wait)
unfolding StandsFor
round_is r past now wait m = pick (taken past) refl m.stands where
  pick : (l : List ℕ) → taken past ≡ l → (length r.slots ≡ 101) × IsKept r l → Remembers (with_round r now wait) (round past now wait) × (round_due r now wait ≡ due past now wait)
  pick [] shape h =
      let none : with_round r now wait ≡ r = ap (λ (b : Bool). cond b (record r { slots = ask_all now wait r.slots (window_of r) }) r) h.1.0 in (
        subst (λ (s : RegisterState). Remembers s (round past now wait)) (sym none)
            (record {
              stands = m.stands;
              asks = λ k free near. m.asks k free near ∙ sym (ap (λ (l : List ℕ). cond (in_gap l k && may_ask (asked past k) now wait) ((asked past k).0 + 1, now) (asked past k)) shape);
            }),
        ap (λ (b : Bool). cond b (due_in now wait r.slots (window_of r)) []) h.1.0 ∙ sym (ap (λ (l : List ℕ). filter (is_due past now wait) (candidates l)) shape),
      )
  pick (x ∷ xs) shape h =
      let keeps : Keeps r x (taken past) = subst (λ (l : List ℕ). Keeps r x l) (sym shape) h.1 in
      let g = greatest (taken past) in
      let window : window_of r ≡ window_from x g = ap (λ (f : ℕ). window_from f r.greatest) keeps.low ∙ ap (λ (n : ℕ). window_from x n) keeps.high in
      let wanted : candidates (taken past) ≡ window_from x g = ap candidates shape ∙ ap (λ (l : List ℕ). window_from x (greatest l)) (sym shape) in
      let first_le : x ≤ g = subst (λ (l : List ℕ). x ≤ greatest l) (sym shape) (omega arith) in
      let start : IsAsked r past now wait (max x (g - 100)) r.slots = record { long = h.0; same = λ j near. refl; until = λ j free near. m.asks j free near ∙ sym (until_low past x xs now wait (max x (g - 100)) j shape refl near) } in
      let all = run (g - max x (g - 100)) r x xs past now wait (max x (g - 100)) r.slots shape keeps (omega arith) (omega arith) start in
      let goes : with_round r now wait ≡ record r { slots = ask_all now wait r.slots (window_from x g) } =
      ap (λ (b : Bool). cond b (record r { slots = ask_all now wait r.slots (window_of r) }) r) keeps.begun ∙ ap (λ (w : List ℕ). record r { slots = ask_all now wait r.slots w }) window in (
        subst (λ (s : RegisterState). Remembers s (round past now wait)) (sym goes) (asked_stands r x xs past now wait (ask_all now wait r.slots (window_from x g)) shape keeps all.1),
        ap (λ (b : Bool). cond b (due_in now wait r.slots (window_of r)) []) keeps.begun ∙ ap (λ (w : List ℕ). due_in now wait r.slots w) window ∙ all.0 ∙ sym (ap (λ (w : List ℕ). filter (is_due past now wait) w) wanted),
      )

-- a number that comes
near_fresh : (l : List ℕ) (n : ℕ) → is_fresh l n ≡ true → greatest l ≤ n + 100
near_fresh [] n f = omega arith
near_fresh (x ∷ xs) n f = fresh_near x n xs f

pub came_fresh : (r : RegisterState) (past : Heard) (n : ℕ) → is_fresh (taken past) n ≡ true → Remembers r past → Remembers (put_number r n) (came past n)
unfolding StandsFor
came_fresh r past n fresh m = record {
  stands = put_number_is r (taken past) n m.stands fresh;
  asks = λ k free near. at k (subst (λ (l : List ℕ). list_any (nat_eq k) l ≡ false) more free) (subst (λ (l : List ℕ). greatest l ≤ k + 100) more near);
} where
  more : with_number (taken past) n ≡ taken past ++ n ∷ []
  more = ap (λ (b : Bool). cond b (taken past ++ n ∷ []) (taken past)) fresh

  long : length r.slots ≡ 101
  long = m.stands.0

  at : (k : ℕ) → list_any (nat_eq k) (taken past ++ n ∷ []) ≡ false → greatest (taken past ++ n ∷ []) ≤ k + 100 → asks_at (slice_set r.slots (n % 101) (taken_slot n)) k ≡ asked past k
  at k free near =
      let both : (list_any (nat_eq k) (taken past) || nat_eq k n) ≡ false = sym (any_push k n (taken past)) ∙ free in
      let old : list_any (nat_eq k) (taken past) ≡ false = or_left (list_any (nat_eq k) (taken past)) (nat_eq k n) both in
      let ne : k ≢ n = other k (or_right (list_any (nat_eq k) (taken past)) (nat_eq k n) both) in
      let near_old : greatest (taken past) ≤ k + 100 = omega (arith, greatest-push (taken past) n) in
      let near_n : n ≤ k + 100 = omega (arith, greatest-push (taken past) n) in
      ⊎_elim
      (λ (is : k % 101 ≡ n % 101).
      let high : greatest (taken past) < k = ⊎_elim (λ (lt : n + 100 < k). let f = near_fresh (taken past) n fresh in omega arith) (λ (le : k ≤ n + 100). absurd (apart k n ne le near_n is)) (cases_lt (n + 100) k) in
      ap (λ (s : Slot). (s.asks, s.last)) (known_over r.slots k n (taken_slot n) long is (λ e. ne (sym e))) ∙ sym (never past k high))
      (λ (far : k % 101 ≢ n % 101). ap (λ (s : Slot). (s.asks, s.last)) (known_far r.slots k n (taken_slot n) far) ∙ m.asks k old near_old)
      (cases_eq (k % 101) (n % 101)) where
        or_left : (a b : Bool) → (a || b) ≡ false → a ≡ false
        or_left true b e = e
        or_left false b e = refl

        or_right : (a b : Bool) → (a || b) ≡ false → b ≡ false
        or_right true b e = absurd (let not_so : true ≡ false = e in cc)
        or_right false b e = e

        other : (k : ℕ) → nat_eq k n ≡ false → k ≢ n
        other k e = grind (arith, nat_tests)

pub came_stale : (r : RegisterState) (past : Heard) (n : ℕ) → is_fresh (taken past) n ≡ false → Remembers r past → Remembers r (came past n)
came_stale r past n stale m =
    let none : taken past ≡ with_number (taken past) n = sym (ap (λ (b : Bool). cond b (taken past ++ n ∷ []) (taken past)) stale) in
    record {
      stands = subst (λ (l : List ℕ). StandsFor r l) none m.stands;
      asks = λ k free near. m.asks k (subst (λ (l : List ℕ). list_any (nat_eq k) l ≡ false) (sym none) free) (subst (λ (l : List ℕ). greatest l ≤ k + 100) (sym none) near);
    }

-- a register that was made, or cleared
began_none : (r : RegisterState) → r.started ≡ false → r.slots ≡ replicate 101 no_slot → Remembers r (started_at None)
began_none r off blank = record { stands = blank_stands r off blank; asks = λ k free near. ap (λ (s : List Slot). asks_at s k) blank ∙ blank_asks k } where
  blank_asks : (k : ℕ) → asks_at (replicate 101 no_slot) k ≡ (0, 0)
  blank_asks k = ap (λ (s : Slot). ((known_in s k).asks, (known_in s k).last)) (get_or-replicate 101 (k % 101) no_slot no_slot (omega arith)) ∙ choose (eqb 0 k) where
    choose : (b : Bool) → ◌≡◌ {A = ℕ × ℕ} ((cond b no_slot (untouched k)).asks, (cond b no_slot (untouched k)).last) (0, 0)
    choose true = refl
    choose false = refl

pub began : (r : RegisterState) (o : Option ℕ) → r.started ≡ false → r.slots ≡ replicate 101 no_slot → Remembers (started r o) (started_at o)
began r None off blank = began_none r off blank
began r (Some n) off blank = let first = came_fresh r (started_at None) n refl (began_none r off blank) in record { stands = first.stands; asks = first.asks }
