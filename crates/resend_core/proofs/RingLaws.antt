-- What a ring holds after an entry was put in, after it grew and after entries were dropped.
use Rattle.std.proofs.Common.{◌≡◌, ◌≢◌, ℕ, zero, suc, ◌-◌, ◌%◌, ◌<◌, ◌≤◌, Bool, true, false, cond, leb, List, [], ◌∷◌, refl, sym, ap, ◌∙◌, subst, arith, length, replicate, map, inl, inr, ⊎_elim, ◌⊎◌, Option, Some, None}
use Rattle.std.specs.Prelude.{slice_index_or}
use Rattle.std.proofs.lemmas.Bool.Decides.{nat_tests}
use Rattle.std.proofs.lemmas.List.{get_or-set_other, get_or-set_same, get_or-replicate, get_or_past, length-replicate, length-map}
use Rattle.std.proofs.lemmas.Nat.{mod-mul-add}
use Rattle.std.proofs.Math.ListN.{get_or-map}
use Rattle.std.proofs.lemmas.Bool.{cases_eq, cases_lt}
use Rattle.resend_core.specs.declared.ring.Entry.{Entry}
use Rattle.resend_core.specs.Ring.{slot_of, held, yields_below, put_in, settled, settled_all, lower, least_young, is_below, kept_from, IsInPlace}
pub use Rattle.resend_core.proofs.HeldLaws.{matching_same, matching_some, held_slot, slot_held, length-put, slot_put_same, held_put_same, held_put_other}

abbrev pub IsIn : {T : Type 0} → Entry T → List (Option (Entry T)) → Type 0
IsIn e [] = ⊥
IsIn e (slot ∷ slots) = (slot ≡ Some e) ⊎ IsIn e slots

-- a number below a divisor is its remainder
pub low_rest : (p n : ℕ) → p < n → p % n ≡ p
low_rest p n lt = grind (arith, mod-mul-add 0 n p lt)

pub in_at : {T : Type 0} (ring : List (Option (Entry T))) (i : ℕ) (e : Entry T) → slice_index_or ring i None ≡ Some e → IsIn e ring
in_at [] i e h = absurd (let no : None ≡ Some e = h in cc)
in_at (o ∷ os) zero e h = inl h
in_at (o ∷ os) (suc i) e h = inr (in_at os i e h)

pub at_in : {T : Type 0} (ring : List (Option (Entry T))) (e : Entry T) → IsIn e ring → (i : ℕ) × (slice_index_or ring i None ≡ Some e)
at_in [] e h = absurd h
at_in (o ∷ os) e (inl h) = (0, h)
at_in (o ∷ os) e (inr h) = let r = at_in os e h in (suc r.0, r.1)

pub held_in : {T : Type 0} (ring : List (Option (Entry T))) (q : ℕ) (e : Entry T) → held ring q ≡ Some e → IsIn e ring
held_in ring q e h = in_at ring (q % length ring) e (held_slot ring q e h).0

pub in_held : {T : Type 0} (ring : List (Option (Entry T))) (e : Entry T) → IsInPlace ring → IsIn e ring → held ring e.position ≡ Some e
in_held ring e p h =
    let at = at_in ring e h in
    let is : e.position % length ring ≡ at.0 = p at.0 e at.1 in
    slot_held ring e (rw is at.1)

-- an entry was put in
pub held_put_from : {T : Type 0} (ring : List (Option (Entry T))) (e : Entry T) (q : ℕ) (x : Entry T) → 0 < length ring → held (put_in ring e) q ≡ Some x → ((e ≡ x) × (e.position ≡ q)) ⊎ (held ring q ≡ Some x)
held_put_from {T} ring e q x some h =
    ⊎_elim
    (λ (is : q % length ring ≡ e.position % length ring).
    let slot = held_slot (put_in ring e) q x h in
    let same : Some e ≡ Some x = sym (slot_put_same ring e q some is) ∙ slot.0 in
    let eq : e ≡ x = cc in
    inl (eq, ap (λ (y : Entry T). y.position) eq ∙ slot.1))
    (λ (far : q % length ring ≢ e.position % length ring). inr (sym (held_put_other ring e q far) ∙ h))
    (cases_eq (q % length ring) (e.position % length ring))

pub in_place_put : {T : Type 0} (ring : List (Option (Entry T))) (e : Entry T) → 0 < length ring → IsInPlace ring → IsInPlace (put_in ring e)
in_place_put {T} ring e some p = λ j x h.
    rw (length-put ring e)
    (⊎_elim
    (λ (is : j ≡ e.position % length ring).
    let within : e.position % length ring < length ring = omega arith in
    let there : slice_index_or (put_in ring e) j None ≡ Some e = rw is (get_or-set_same ring (e.position % length ring) (Some e) None within) in
    let same : Some e ≡ Some x = sym there ∙ h in
    let eq : x ≡ e = cc in
    ap (λ (y : Entry T). y.position % length ring) eq ∙ sym is)
    (λ (far : j ≢ e.position % length ring). p j x (sym (get_or-set_other ring (e.position % length ring) j (Some e) None far) ∙ h))
    (cases_eq j (e.position % length ring)))

-- an entry settles where no entry of a position no lower stands
settled_length : {T : Type 0} (ring : List (Option (Entry T))) (o : Option (Entry T)) → length (settled ring o) ≡ length ring
settled_length ring None = refl
settled_length {T} ring (Some e) = pick (yields_below e.position (slot_of ring e.position)) where
  pick : (b : Bool) → length (cond b (put_in ring e) ring) ≡ length ring
  pick true = length-put ring e
  pick false = refl

settled_in_place : {T : Type 0} (ring : List (Option (Entry T))) (o : Option (Entry T)) → 0 < length ring → IsInPlace ring → IsInPlace (settled ring o)
settled_in_place ring None some p = p
settled_in_place {T} ring (Some e) some p = pick (yields_below e.position (slot_of ring e.position)) where
  pick : (b : Bool) → IsInPlace (cond b (put_in ring e) ring)
  pick true = in_place_put ring e some p
  pick false = p

settled_from : {T : Type 0} (ring : List (Option (Entry T))) (o : Option (Entry T)) (q : ℕ) (x : Entry T) → 0 < length ring → held (settled ring o) q ≡ Some x → (o ≡ Some x) ⊎ (held ring q ≡ Some x)
settled_from ring None q x some h = inr h
settled_from {T} ring (Some e) q x some h = pick (yields_below e.position (slot_of ring e.position)) h where
  pick : (b : Bool) → held (cond b (put_in ring e) ring) q ≡ Some x → (Some e ≡ Some x) ⊎ (held ring q ≡ Some x)
  pick true k = ⊎_elim (λ (w : (e ≡ x) × (e.position ≡ q)). inl (ap (λ (y : Entry T). Some y) w.0)) (λ (w : held ring q ≡ Some x). inr w) (held_put_from ring e q x some k)
  pick false k = inr k

-- what was held stays, or a greater position took its slot
settled_stays : {T : Type 0} (ring : List (Option (Entry T))) (e : Entry T) (q : ℕ) (x : Entry T) → 0 < length ring → held ring q ≡ Some x → (held (settled ring (Some e)) q ≡ Some x) ⊎ ((q < e.position) × (q % length ring ≡ e.position % length ring))
settled_stays {T} ring e q x some h =
    ⊎_elim
    (λ (is : q % length ring ≡ e.position % length ring).
    let slot = held_slot ring q x h in
    let there : slot_of ring e.position ≡ Some x = ap (λ (i : ℕ). slice_index_or ring i None) (sym is) ∙ slot.0 in
    taken (yields_below e.position (slot_of ring e.position)) refl there slot.1 is)
    (λ (far : q % length ring ≢ e.position % length ring). inl (apart far (yields_below e.position (slot_of ring e.position))))
    (cases_eq (q % length ring) (e.position % length ring)) where
      taken : (b : Bool) → yields_below e.position (slot_of ring e.position) ≡ b → slot_of ring e.position ≡ Some x → x.position ≡ q → q % length ring ≡ e.position % length ring → (held (cond b (put_in ring e) ring) q ≡ Some x) ⊎ ((q < e.position) × (q % length ring ≡ e.position % length ring))
      taken false t there at is = inl h
      taken true t there at is =
          let test : yields_below e.position (Some x) ≡ true = ap (λ (o : Option (Entry T)). yields_below e.position o) (sym there) ∙ t in
          let below : x.position < e.position = grind (arith, nat_tests) in
          inr (omega arith, is)

      apart : q % length ring ≢ e.position % length ring → (b : Bool) → held (cond b (put_in ring e) ring) q ≡ Some x
      apart far true = held_put_other ring e q far ∙ h
      apart far false = h

-- all entries settle
pub all_length : {T : Type 0} (ring slots : List (Option (Entry T))) → length (settled_all ring slots) ≡ length ring
all_length ring [] = refl
all_length ring (o ∷ slots) = all_length (settled ring o) slots ∙ settled_length ring o

some_settled : {T : Type 0} (ring : List (Option (Entry T))) (o : Option (Entry T)) → 0 < length ring → 0 < length (settled ring o)
some_settled ring o some = rw settled_length some

pub all_in_place : {T : Type 0} (ring slots : List (Option (Entry T))) → 0 < length ring → IsInPlace ring → IsInPlace (settled_all ring slots)
all_in_place ring [] some p = p
all_in_place ring (o ∷ slots) some p = all_in_place (settled ring o) slots (some_settled ring o some) (settled_in_place ring o some p)

pub all_from : {T : Type 0} (ring slots : List (Option (Entry T))) (q : ℕ) (x : Entry T) → 0 < length ring → held (settled_all ring slots) q ≡ Some x → (held ring q ≡ Some x) ⊎ IsIn x slots
all_from ring [] q x some h = inl h
all_from ring (o ∷ slots) q x some h =
    ⊎_elim
    (λ (k : held (settled ring o) q ≡ Some x). ⊎_elim (λ (w : o ≡ Some x). inr (inl w)) (λ (w : held ring q ≡ Some x). inl w) (settled_from ring o q x some k))
    (λ (w : IsIn x slots). inr (inr w))
    (all_from (settled ring o) slots q x (some_settled ring o some) h)

-- an entry of the slots has a greater position and this slot
abbrev pub IsOutdone : {T : Type 0} → ℕ → List (Option (Entry T)) → ℕ → Type 0
IsOutdone {T} n slots q = (f : Entry T) × IsIn f slots × (q < f.position) × (q % n ≡ f.position % n)

outdone_more : {T : Type 0} (n : ℕ) (o : Option (Entry T)) (slots : List (Option (Entry T))) (q : ℕ) → IsOutdone n slots q → IsOutdone n (o ∷ slots) q
outdone_more n o slots q w = (w.0, inr w.1, w.2, w.3)

pub all_stays : {T : Type 0} (n : ℕ) (ring slots : List (Option (Entry T))) (q : ℕ) (x : Entry T) → length ring ≡ n → 0 < n → held ring q ≡ Some x → (held (settled_all ring slots) q ≡ Some x) ⊎ IsOutdone n slots q
all_stays n ring [] q x long some h = inl h
all_stays n ring (None ∷ slots) q x long some h =
    ⊎_elim (λ (k : held (settled_all ring slots) q ≡ Some x). inl k) (λ (w : IsOutdone n slots q). inr (outdone_more n None slots q w)) (all_stays n ring slots q x long some h)
all_stays n ring (Some e ∷ slots) q x long some h =
    ⊎_elim
    (λ (k : held (settled ring (Some e)) q ≡ Some x).
    ⊎_elim
    (λ (k : held (settled_all (settled ring (Some e)) slots) q ≡ Some x). inl k)
    (λ (w : IsOutdone n slots q). inr (outdone_more n (Some e) slots q w))
    (all_stays n (settled ring (Some e)) slots q x (settled_length ring (Some e) ∙ long) some k))
    (λ (w : (q < e.position) × (q % length ring ≡ e.position % length ring)). inr (e, inl refl, w.0, rw (← long) w.1))
    (settled_stays ring e q x (rw long some) h)

-- each entry is in the ring, or a greater position took its slot. All come from slots in which no position stands twice
pub all_arrive : {T : Type 0} (n : ℕ) (ring slots all : List (Option (Entry T))) (x : Entry T) → length ring ≡ n → 0 < n → IsInPlace ring
    → ((q : ℕ) (f : Entry T) → held ring q ≡ Some f → IsIn f all) → ((f : Entry T) → IsIn f slots → IsIn f all)
    → ((f : Entry T) → IsIn f all → f.position ≡ x.position → f ≡ x)
    → IsIn x slots → (held (settled_all ring slots) x.position ≡ Some x) ⊎ IsOutdone n all x.position
all_arrive n ring [] all x long some p from sub once h = absurd h
all_arrive {T} n ring (o ∷ slots) all x long some p from sub once (inr h) =
    all_arrive n (settled ring o) slots all x (settled_length ring o ∙ long) some (settled_in_place ring o (rw long some) p)
    (λ q f k. ⊎_elim (λ (w : o ≡ Some f). sub f (inl w)) (λ (w : held ring q ≡ Some f). from q f w) (settled_from ring o q f (rw long some) k))
    (λ f k. sub f (inr k)) once h
all_arrive {T} n ring (o ∷ slots) all x long some p from sub once (inl h) =
    let goes : List (Option (Entry T)) → Type 0 = λ r. (held (settled_all r slots) x.position ≡ Some x) ⊎ IsOutdone n all x.position in
    subst (λ (e : Option (Entry T)). goes (settled ring e)) (sym h) (arrive (yields_below x.position (slot_of ring x.position)) refl) where
      wide : IsOutdone n slots x.position → IsOutdone n all x.position
      wide w = (w.0, sub w.0 (inr w.1), w.2, w.3)

      on : (r : List (Option (Entry T))) → length r ≡ n → held r x.position ≡ Some x → (held (settled_all r slots) x.position ≡ Some x) ⊎ IsOutdone n all x.position
      on r l k = ⊎_elim (λ (w : held (settled_all r slots) x.position ≡ Some x). inl w) (λ (w : IsOutdone n slots x.position). inr (wide w)) (all_stays n r slots x.position x l some k)

      blocked : (s : Option (Entry T)) → slot_of ring x.position ≡ s → yields_below x.position s ≡ false → (held (settled_all ring slots) x.position ≡ Some x) ⊎ IsOutdone n all x.position
      blocked None is t = absurd (let no : true ≡ false = t in cc)
      blocked (Some f) is t =
          let same : f.position % length ring ≡ x.position % length ring = p (x.position % length ring) f is in
          let there : slot_of ring f.position ≡ Some f = ap (λ (i : ℕ). slice_index_or ring i None) same ∙ is in
          let kept : held ring f.position ≡ Some f = slot_held ring f there in
          let whole : IsIn f all = from f.position f kept in
          let above : x.position ≤ f.position = grind (arith, nat_tests) in
          ⊎_elim
          (λ (eq : f.position ≡ x.position).
          let is_x : f ≡ x = once f whole eq in
          on ring long (ap (λ (i : ℕ). held ring i) (sym eq) ∙ kept ∙ ap (λ (y : Entry T). Some y) is_x))
          (λ (ne : f.position ≢ x.position). inr (f, whole, omega arith, rw (← long) (sym same)))
          (cases_eq f.position x.position)

      arrive : (b : Bool) → yields_below x.position (slot_of ring x.position) ≡ b → (held (settled_all (cond b (put_in ring x) ring) slots) x.position ≡ Some x) ⊎ IsOutdone n all x.position
      arrive true t = on (put_in ring x) (length-put ring x ∙ long) (held_put_same ring x (rw long some))
      arrive false t = blocked (slot_of ring x.position) refl t

-- a ring with no entry
abbrev no_entry : (T : Type 0) → Option (Entry T)
no_entry T = None

blank_slot : (T : Type 0) (n i : ℕ) → slice_index_or (replicate n (no_entry T)) i None ≡ no_entry T
blank_slot T n i =
    ⊎_elim
    (λ (lt : i < n). get_or-replicate n i (no_entry T) (no_entry T) lt)
    (λ (ge : n ≤ i). get_or_past (replicate n (no_entry T)) i (no_entry T) (rw length-replicate ge))
    (cases_lt i n)

blank_none : {T : Type 0} (n q : ℕ) (x : Entry T) → held (replicate n None) q ≡ Some x → ⊥
blank_none {T} n q x h =
    let at = held_slot (replicate n (no_entry T)) q x h in
    let not_so : None ≡ Some x = sym (blank_slot T n (q % length (replicate n (no_entry T)))) ∙ at.0 in
    cc

blank_in_place : (T : Type 0) (n : ℕ) → IsInPlace (replicate n (no_entry T))
blank_in_place T n = λ i e h. absurd (let not_so : None ≡ Some e = sym (blank_slot T n i) ∙ h in cc)

-- a ring that grew: it holds nothing new, and what it held unless a greater position took its slot
pub grown : {T : Type 0} (n : ℕ) (old : List (Option (Entry T))) → 0 < n → IsInPlace old → (q : ℕ) (x : Entry T) → held old q ≡ Some x
    → (held (settled_all (replicate n None) old) q ≡ Some x) ⊎ IsOutdone n old q
grown {T} n old some p q x h =
    let at = held_slot old q x h in
    let here : (held (settled_all (replicate n None) old) x.position ≡ Some x) ⊎ IsOutdone n old x.position =
    all_arrive n (replicate n None) old old x (length-replicate n None) some (blank_in_place T n) (λ k f e. absurd (blank_none n k f e)) (λ f k. k) (λ f k e. once f k e) (held_in old q x h) in
    subst (λ (i : ℕ). (held (settled_all (replicate n None) old) i ≡ Some x) ⊎ IsOutdone n old i) at.1 here where
      once : (f : Entry T) → IsIn f old → f.position ≡ x.position → f ≡ x
      once f k e =
          let mine : held old x.position ≡ Some x = in_held old x p (held_in old q x h) in
          let its : held old f.position ≡ Some f = in_held old f p k in
          let both : Some f ≡ Some x = sym its ∙ ap (λ (i : ℕ). held old i) e ∙ mine in
          cc

pub grown_from : {T : Type 0} (n : ℕ) (old : List (Option (Entry T))) → 0 < n → IsInPlace old → (q : ℕ) (x : Entry T) → held (settled_all (replicate n None) old) q ≡ Some x → held old q ≡ Some x
grown_from {T} n old some p q x h =
    let at = held_slot (settled_all (replicate n None) old) q x h in
    let whole : IsIn x old = ⊎_elim (λ (k : held (replicate n None) q ≡ Some x). absurd (blank_none n q x k)) (λ (k : IsIn x old). k) (all_from (replicate n None) old q x (rw length-replicate some) h) in
    subst (λ (i : ℕ). held old i ≡ Some x) at.1 (in_held old x p whole)

pub grown_in_place : {T : Type 0} (n : ℕ) (old : List (Option (Entry T))) → 0 < n → IsInPlace (settled_all (replicate n None) old)
grown_in_place {T} n old some = all_in_place (replicate n None) old (rw length-replicate some) (blank_in_place T n)

-- entries below a position were dropped
kept_some : {T : Type 0} (first : Option ℕ) (o : Option (Entry T)) (e : Entry T) → kept_from first o ≡ Some e → (o ≡ Some e) × (is_below first e.position ≡ false)
kept_some first None e h = absurd (let not_so : None ≡ Some e = h in cc)
kept_some {T} first (Some f) e h = pick (is_below first f.position) refl h where
  pick : (b : Bool) → is_below first f.position ≡ b → cond b None (Some f) ≡ Some e → (Some f ≡ Some e) × (is_below first e.position ≡ false)
  pick true t k = absurd (let not_so : None ≡ Some e = k in cc)
  pick false t k = (k, let eq : f ≡ e = cc in ap (λ (y : Entry T). is_below first y.position) (sym eq) ∙ t)

kept_slot : {T : Type 0} (first : Option ℕ) (ring : List (Option (Entry T))) (i : ℕ) → slice_index_or (map (kept_from first) ring) i None ≡ kept_from first (slice_index_or ring i None)
kept_slot first ring i = get_or-map (kept_from first) ring i None

pub dropped_in_place : {T : Type 0} (first : Option ℕ) (ring : List (Option (Entry T))) → IsInPlace ring → IsInPlace (map (kept_from first) ring)
dropped_in_place {T} first ring p = λ i e h.
    rw length-map (p i e (kept_some first (slice_index_or ring i None) e (sym (kept_slot first ring i) ∙ h)).0)

pub dropped_from : {T : Type 0} (first : Option ℕ) (ring : List (Option (Entry T))) (q : ℕ) (e : Entry T) → held (map (kept_from first) ring) q ≡ Some e → (held ring q ≡ Some e) × (is_below first q ≡ false)
dropped_from {T} first ring q e h =
    let at = held_slot (map (kept_from first) ring) q e h in
    let long : length (map (kept_from first) ring) ≡ length ring = length-map ring (kept_from first) in
    let there : kept_from first (slot_of ring q) ≡ Some e = sym (kept_slot first ring (q % length ring)) ∙ ap (λ (n : ℕ). slice_index_or (map (kept_from first) ring) (q % n) None) (sym long) ∙ at.0 in
    let was = kept_some first (slot_of ring q) e there in
    (subst (λ (i : ℕ). held ring i ≡ Some e) at.1 (slot_held ring e (subst (λ (i : ℕ). slot_of ring i ≡ Some e) (sym at.1) was.0)), ap (λ (i : ℕ). is_below first i) (sym at.1) ∙ was.1)

pub dropped_stays : {T : Type 0} (first : Option ℕ) (ring : List (Option (Entry T))) (q : ℕ) (e : Entry T) → held ring q ≡ Some e → is_below first q ≡ false → held (map (kept_from first) ring) q ≡ Some e
dropped_stays {T} first ring q e h above =
    let at = held_slot ring q e h in
    let long : length (map (kept_from first) ring) ≡ length ring = length-map ring (kept_from first) in
    let kept : kept_from first (Some e) ≡ Some e = rw (at.1, above) refl in
    let there : slot_of (map (kept_from first) ring) q ≡ Some e = ap (λ (n : ℕ). slice_index_or (map (kept_from first) ring) (q % n) None) long ∙ kept_slot first ring (q % length ring) ∙ ap (kept_from first) at.0 ∙ kept in
    subst (λ (i : ℕ). held (map (kept_from first) ring) i ≡ Some e) at.1 (slot_held (map (kept_from first) ring) e (subst (λ (i : ℕ). slot_of (map (kept_from first) ring) i ≡ Some e) (sym at.1) there))

-- the lowest young position
lowered : (o : Option ℕ) (p c : ℕ) → lower o p ≡ Some c → (o ≡ Some c) ⊎ (p ≡ c)
lowered None p c k = inr cc
lowered (Some d) p c k = choose (leb d p) k where
  choose : (b : Bool) → cond b (Some d) (Some p) ≡ Some c → (Some d ≡ Some c) ⊎ (p ≡ c)
  choose true k = inl k
  choose false k = inr cc

abbrev pub IsYoungAt : {T : Type 0} → ℕ → ℕ → List (Option (Entry T)) → ℕ → Type 0
IsYoungAt {T} now age slots c = (e : Entry T) × IsIn e slots × (now - e.moment ≤ age) × (e.position ≡ c)

young_more : {T : Type 0} (now age : ℕ) (o : Option (Entry T)) (slots : List (Option (Entry T))) (c : ℕ) → IsYoungAt now age slots c → IsYoungAt now age (o ∷ slots) c
young_more now age o slots c w = (w.0, inr w.1, w.2, w.3)

least_step : {T : Type 0} (now age : ℕ) (first : Option ℕ) (e : Entry T) (slots : List (Option (Entry T))) (c : ℕ) → cond (leb (now - e.moment) age) (lower first e.position) first ≡ Some c → (first ≡ Some c) ⊎ IsYoungAt now age (Some e ∷ slots) c
least_step {T} now age first e slots c h = pick (leb (now - e.moment) age) refl h where
  pick : (b : Bool) → leb (now - e.moment) age ≡ b → cond b (lower first e.position) first ≡ Some c → (first ≡ Some c) ⊎ IsYoungAt now age (Some e ∷ slots) c
  pick false t k = inl k
  pick true t k =
      let le : now - e.moment ≤ age = grind (arith, nat_tests) in
      ⊎_elim (λ (w : first ≡ Some c). inl w) (λ (w : e.position ≡ c). inr (e, inl refl, le, w)) (lowered first e.position c k)

pub least_at : {T : Type 0} (now age : ℕ) (first : Option ℕ) (slots : List (Option (Entry T))) (c : ℕ) → least_young now age first slots ≡ Some c → (first ≡ Some c) ⊎ IsYoungAt now age slots c
least_at now age first [] c h = inl h
least_at now age first (None ∷ slots) c h =
    ⊎_elim (λ (k : first ≡ Some c). inl k) (λ (w : IsYoungAt now age slots c). inr (young_more now age None slots c w)) (least_at now age first slots c h)
least_at now age first (Some e ∷ slots) c h =
    ⊎_elim
    (λ (k : cond (leb (now - e.moment) age) (lower first e.position) first ≡ Some c). least_step now age first e slots c k)
    (λ (w : IsYoungAt now age slots c). inr (young_more now age (Some e) slots c w))
    (least_at now age (cond (leb (now - e.moment) age) (lower first e.position) first) slots c h)

lower_some : (d p : ℕ) → (c : ℕ) × (lower (Some d) p ≡ Some c) × (c ≤ d) × (c ≤ p)
lower_some d p = pick (leb d p) refl where
  pick : (b : Bool) → leb d p ≡ b → (c : ℕ) × (cond b (Some d) (Some p) ≡ Some c) × (c ≤ d) × (c ≤ p)
  pick true t = (d, refl, omega arith, grind (arith, nat_tests))
  pick false t = (p, refl, grind (arith, nat_tests), omega arith)

lower_any : (o : Option ℕ) (p : ℕ) → (c : ℕ) × (lower o p ≡ Some c) × (c ≤ p)
lower_any None p = (p, refl, omega arith)
lower_any (Some d) p = let w = lower_some d p in (w.0, w.1, w.3)

lowest : (b : Bool) (d p : ℕ) → (c : ℕ) × (cond b (lower (Some d) p) (Some d) ≡ Some c) × (c ≤ d)
lowest false d p = (d, refl, omega arith)
lowest true d p = let w = lower_some d p in (w.0, w.1, w.2)

least_mono : {T : Type 0} (now age d : ℕ) (slots : List (Option (Entry T))) → (c : ℕ) × (least_young now age (Some d) slots ≡ Some c) × (c ≤ d)
least_mono now age d [] = (d, refl, omega arith)
least_mono now age d (None ∷ slots) = least_mono now age d slots
least_mono now age d (Some e ∷ slots) =
    let w = lowest (leb (now - e.moment) age) d e.position in
    let r = least_mono now age w.0 slots in
    (r.0, ap (λ (o : Option ℕ). least_young now age o slots) w.1 ∙ r.1, under r.0 w.0 d r.2 w.2) where
      under : (a b c : ℕ) → a ≤ b → b ≤ c → a ≤ c
      under a b c x y = omega arith

pub least_le : {T : Type 0} (now age : ℕ) (first : Option ℕ) (slots : List (Option (Entry T))) (e : Entry T) → IsIn e slots → now - e.moment ≤ age → (c : ℕ) × (least_young now age first slots ≡ Some c) × (c ≤ e.position)
least_le now age first [] e h y = absurd h
least_le now age first (None ∷ slots) e (inl h) y = absurd (let not_so : None ≡ Some e = h in cc)
least_le now age first (None ∷ slots) e (inr h) y = least_le now age first slots e h y
least_le now age first (Some f ∷ slots) e (inr h) y = least_le now age (cond (leb (now - f.moment) age) (lower first f.position) first) slots e h y
least_le {T} now age first (Some f ∷ slots) e (inl h) y =
    let eq : f ≡ e = cc in
    let late : leb (now - e.moment) age ≡ true = grind (arith, nat_tests) in
    let test : leb (now - f.moment) age ≡ true = ap (λ (x : Entry T). leb (now - x.moment) age) eq ∙ late in
    let w = lower_any first f.position in
    let r = least_mono now age w.0 slots in
    let at : f.position ≡ e.position = ap (λ (x : Entry T). x.position) eq in
    (r.0, ap (λ (b : Bool). least_young now age (cond b (lower first f.position) first) slots) test ∙ ap (λ (o : Option ℕ). least_young now age o slots) w.1 ∙ r.1, below r.0 w.0 f.position e.position r.2 w.2 at) where
      below : (a b c d : ℕ) → a ≤ b → b ≤ c → c ≡ d → a ≤ d
      below a b c d x y z = omega arith
