-- Stretches of numbers that rise, and which numbers they have.
use Rattle.std.proofs.Common.{◌≡◌, inl, inr, ℕ, zero, suc, ◌+◌, ◌-◌, ◌<◌, ◌≤◌, Bool, true, false, cond, ◌&&◌, ◌||◌, leb, ltb, List, [], ◌∷◌, ◌++◌, length, get_or, slice_get, Option, Some, None, refl, sym, ap, ◌∙◌, arith}
use Rattle.std.specs.Prelude.{◌==◌}
use Rattle.std.specs.BTreeMap.{is_at}
use Rattle.std.specs.BTreeSet.{BTreeSet, contains, Updates}
use Rattle.std.specs.Cmp.{nat_eq_equiv, unsigned_tied}
use Rattle.std.specs.List.{list_any, range_with_len, AllWithin}
use Rattle.std.specs.List.Sorted.{IsNonDecreasingBy}
use Rattle.std.specs.Option.{option_to_list}
use Rattle.std.specs.Ordering.{nat_cmp}
use Rattle.std.proofs.lemmas.Bool.{ltb-true, ltb-false, lt-ltb, le-ltb, le-leb, lt-leb, eq-eqb, ne_eqb, cases_lt, cases_order, and_left, and_right, and_from, or_right, false_from_ne_true}
use Rattle.std.proofs.lemmas.List.{append-nil}
use Rattle.std.proofs.lemmas.List.Folds.{list_any-append}
use Rattle.media_play.specs.declared.numbers.Stretch.{Stretch}
use Rattle.media_laws.specs.Rules.{has}
use Rattle.media_play.specs.UsedNumbers.{numbers_in, Rise, AreInOrder}

abbrev pub among : ℕ → List ℕ → Bool
among n ns = list_any (is_at (nat_cmp n)) ns

has_late : (late : List ℕ) (n : ℕ) → has late n ≡ among n late
has_late [] n = refl
has_late (m ∷ late) n =
    ap (λ b. b || has late n) (sym (unsigned_tied n m ∙ nat_eq_equiv.symm n m)) ∙ ap (λ b. is_at (nat_cmp n) m || b) (has_late late n)

-- a number is in one of the stretches
abbrev covers : List Stretch → ℕ → Bool
covers stretches n = list_any (λ s. leb s.first n && leb n s.last) stretches

or_false : (b : Bool) → (b || false) ≡ b
or_false true = refl
or_false false = refl

-- the numbers of stretches

in_row : (n first count : ℕ) → has (range_with_len first count) n ≡ (leb first n && ltb n (first + count))
in_row n first zero = elim (cases_lt n first) [
  | inl lt ↦ sym (and_left _ _ (lt-leb first n lt))
  | inr le ↦ sym (and_right _ _ (le-ltb n (first + 0) (omega (arith, le))))
]
in_row n first (suc count) = elim (cases_order n first) [
  | inl e ↦ rw (eq-eqb first n (sym e), le-leb first n (omega (arith, e)), lt-ltb n (first + suc count) (omega (arith, e))) refl
  | inr o ↦ elim o [
    | inl lt ↦ rw (ne_eqb first n (λ e. absurd (omega (arith, e, lt))), lt-leb first n lt) (in_row n (first + 1) count ∙ and_left _ _ (lt-leb (first + 1) n (omega (arith, lt))))
    | inr gt ↦
        let bound : first + 1 + count ≡ first + suc count = omega arith in
        rw (ne_eqb first n (λ e. absurd (omega (arith, e, gt))), le-leb first n (omega (arith, gt)))
        (in_row n (first + 1) count ∙ ap (λ b. b && ltb n (first + 1 + count)) (le-leb (first + 1) n (omega (arith, gt))) ∙ ap (ltb n) bound)
  ]
]

in_stretch : (n first last : ℕ) → (leb first n && ltb n (first + (last + 1 - first))) ≡ (leb first n && leb n last)
in_stretch n first last = elim (cases_lt n first) [
  | inl lt ↦ and_left _ _ (lt-leb first n lt) ∙ sym (and_left _ _ (lt-leb first n lt))
  | inr le ↦ ap (λ b. leb first n && b) (elim (cases_lt last n) [
    | inl past ↦ le-ltb n (first + (last + 1 - first)) (omega (arith, le, past)) ∙ sym (lt-leb n last past)
    | inr within ↦ lt-ltb n (first + (last + 1 - first)) (omega (arith, le, within)) ∙ sym (le-leb n last within)
  ])
]

has_stretches : (ss : List Stretch) (n : ℕ) → has (numbers_in ss) n ≡ covers ss n
has_stretches [] n = refl
has_stretches (s ∷ ss) n =
    list_any-append (λ (m : ℕ). m == n) (range_with_len s.first (s.last + 1 - s.first)) (numbers_in ss)
    ∙ ap (λ b. b || has (numbers_in ss) n) (in_row n s.first (s.last + 1 - s.first) ∙ in_stretch n s.first s.last)
    ∙ ap (λ b. (leb s.first n && leb n s.last) || b) (has_stretches ss n)

abbrev pub kept : List Stretch → List ℕ → List ℕ
kept ss late = numbers_in ss ++ late

has_kept : (ss : List Stretch) (late : List ℕ) (n : ℕ) → has (kept ss late) n ≡ (covers ss n || among n late)
has_kept ss late n =
    list_any-append (λ (m : ℕ). m == n) (numbers_in ss) late
    ∙ ap (λ b. b || has late n) (has_stretches ss n)
    ∙ ap (λ b. covers ss n || b) (has_late late n)

covers_push : (ss : List Stretch) (s : Stretch) (n : ℕ) → covers (ss ++ s ∷ []) n ≡ (covers ss n || (leb s.first n && leb n s.last))
covers_push ss s n =
    list_any-append (λ (t : Stretch). leb t.first n && leb n t.last) ss (s ∷ [])
    ∙ ap (λ b. covers ss n || b) (or_false (leb s.first n && leb n s.last))

-- a number more

late_more : (c l b : Bool) → (c || cond b true l) ≡ ((c || l) || b)
late_more true l b = refl
late_more false true true = refl
late_more false true false = refl
late_more false false true = refl
late_more false false false = refl

new_more : (c b l : Bool) → ((c || b) || l) ≡ ((c || l) || b)
new_more true b l = refl
new_more false true true = refl
new_more false true false = refl
new_more false false true = refl
new_more false false false = refl

stretch_more : (c t b l : Bool) → ((c || (t || b)) || l) ≡ (((c || t) || l) || b)
stretch_more true t b l = refl
stretch_more false t b l = new_more t b l

pub inserted_late : (ss : List Stretch) (old new : BTreeSet ℕ) (number : ℕ) → Updates nat_cmp old new number true
    → (n : ℕ) → has (kept ss new.keys) n ≡ (has (kept ss old.keys) n || (number == n))
inserted_late ss old new number updates n =
    has_kept ss new.keys n
    ∙ ap (λ b. covers ss n || b) (updates.0 n ∙ ap (λ b. cond b true (contains nat_cmp old n)) (unsigned_tied number n))
    ∙ late_more (covers ss n) (contains nat_cmp old n) (number == n)
    ∙ ap (λ b. b || (number == n)) (sym (has_kept ss old.keys n))

last_more : (first last number n : ℕ) → first ≤ last → number ≡ last + 1 → (leb first n && leb n number) ≡ ((leb first n && leb n last) || (number == n))
last_more first last number n order next = elim (cases_order n number) [
  | inl e ↦ rw (le-leb first n (omega (arith, order, next, e)), le-leb n number (omega (arith, e)), lt-leb n last (omega (arith, next, e)), eq-eqb number n (sym e)) refl
  | inr o ↦ elim o [
    | inl lt ↦ rw (le-leb n number (omega (arith, lt)), le-leb n last (omega (arith, next, lt)), ne_eqb number n (λ e. absurd (omega (arith, e, lt)))) (sym (or_false (leb first n && true)))
    | inr gt ↦ rw (lt-leb n number gt, lt-leb n last (omega (arith, next, gt)), ne_eqb number n (λ e. absurd (omega (arith, e, gt)))) (sym (or_false (leb first n && false)))
  ]
]

pub inserted_next : (lower : List Stretch) (top : Stretch) (late : List ℕ) (number : ℕ) → top.first ≤ top.last → number ≡ top.last + 1
    → (n : ℕ) → has (kept (lower ++ record { first = top.first; last = number } ∷ []) late) n
    ≡ (has (kept (lower ++ top ∷ []) late) n || (number == n))
inserted_next lower top late number order next n =
    has_kept (lower ++ record { first = top.first; last = number } ∷ []) late n
    ∙ ap (λ b. b || among n late) (covers_push lower (record { first = top.first; last = number }) n ∙ ap (λ b. covers lower n || b) (last_more top.first top.last number n order next))
    ∙ stretch_more (covers lower n) (leb top.first n && leb n top.last) (number == n) (among n late)
    ∙ ap (λ b. (b || among n late) || (number == n)) (sym (covers_push lower top n))
    ∙ ap (λ b. b || (number == n)) (sym (has_kept (lower ++ top ∷ []) late n))

one_number : (number n : ℕ) → (leb number n && leb n number) ≡ (number == n)
one_number number n = elim (cases_order n number) [
  | inl e ↦ rw (le-leb number n (omega (arith, e)), le-leb n number (omega (arith, e)), eq-eqb number n (sym e)) refl
  | inr o ↦ elim o [
    | inl lt ↦ rw (lt-leb number n lt, ne_eqb number n (λ e. absurd (omega (arith, e, lt)))) refl
    | inr gt ↦ rw (le-leb number n (omega (arith, gt)), lt-leb n number gt, ne_eqb number n (λ e. absurd (omega (arith, e, gt)))) refl
  ]
]

pub inserted_new : (ss : List Stretch) (late : List ℕ) (number : ℕ) → (n : ℕ)
    → has (kept (ss ++ record { first = number; last = number } ∷ []) late) n ≡ (has (kept ss late) n || (number == n))
inserted_new ss late number n =
    has_kept (ss ++ record { first = number; last = number } ∷ []) late n
    ∙ ap (λ b. b || among n late) (covers_push ss (record { first = number; last = number }) n ∙ ap (λ b. covers ss n || b) (one_number number n))
    ∙ new_more (covers ss n) (number == n) (among n late)
    ∙ ap (λ b. b || (number == n)) (sym (has_kept ss late n))

pub inserted_first : (ss : List Stretch) (late : List ℕ) (number : ℕ) → (n : ℕ)
    → has (kept (ss ++ record { first = number; last = number } ∷ []) late) n ≡ (has (kept (ss ++ []) late) n || (number == n))
inserted_first ss late number n =
    inserted_new ss late number n ∙ ap (λ (ts : List Stretch). has (kept ts late) n || (number == n)) (sym (append-nil ss))

-- the order

pub rise_top : (lower : List Stretch) (top : Stretch) (from : ℕ) → Rise from (lower ++ top ∷ []) → (from ≤ top.first) × (top.first ≤ top.last)
rise_top [] top from h = (h.0, h.1)
rise_top (s ∷ lower) top from h = let r = rise_top lower top (s.last + 1) h.2 in (omega (arith, h.0, h.1, r.0), r.1)

pub rise_lower : (lower : List Stretch) (top : Stretch) (from : ℕ) → Rise from (lower ++ top ∷ []) → Rise from lower
rise_lower [] top from h = tt
rise_lower (s ∷ lower) top from h = (h.0, h.1, rise_lower lower top (s.last + 1) h.2)

-- the top reaches further
pub rise_longer : (lower : List Stretch) (top : Stretch) (last from : ℕ) → top.last ≤ last → Rise from (lower ++ top ∷ []) → Rise from (lower ++ record { first = top.first; last = last } ∷ [])
rise_longer [] top last from le h = (h.0, omega (arith, h.1, le), tt)
rise_longer (s ∷ lower) top last from le h = (h.0, h.1, rise_longer lower top last (s.last + 1) le h.2)

-- one more above the top
pub rise_more : (lower : List Stretch) (top next : Stretch) (from : ℕ) → top.last < next.first → next.first ≤ next.last → Rise from (lower ++ top ∷ []) → Rise from ((lower ++ top ∷ []) ++ next ∷ [])
rise_more [] top next from above order h = (h.0, h.1, (omega (arith, above), order, tt))
rise_more (s ∷ lower) top next from above order h = (h.0, h.1, rise_more lower top next (s.last + 1) above order h.2)

covers_below : (ss : List Stretch) (from n : ℕ) → Rise from ss → n < from → covers ss n ≡ false
covers_below [] from n h lt = refl
covers_below (s ∷ ss) from n h lt = rw (lt-leb s.first n (omega (arith, h.0, lt))) (covers_below ss (s.last + 1) n h.2 (omega (arith, h.0, h.1, lt)))

covers_above : (lower : List Stretch) (top : Stretch) (from n : ℕ) → Rise from (lower ++ top ∷ []) → top.last < n → covers (lower ++ top ∷ []) n ≡ false
covers_above [] top from n h above = ap (λ b. b || false) (and_right (leb top.first n) _ (lt-leb n top.last above))
covers_above (s ∷ lower) top from n h above =
    let r = rise_top lower top (s.last + 1) h.2 in
    ap (λ b. b || covers (lower ++ top ∷ []) n) (and_right (leb s.first n) _ (lt-leb n s.last (omega (arith, r.0, r.1, above))))
    ∙ covers_above lower top (s.last + 1) n h.2 above

-- what is kept, where it is known whether there is a top
pub kept_with : (lower : List Stretch) (at top : Option Stretch) (late : List ℕ) (all : List ℕ) → at ≡ top
    → kept (lower ++ option_to_list at) late ≡ all → kept (lower ++ option_to_list top) late ≡ all
kept_with lower at top late all is view = ap (λ (o : Option Stretch). kept (lower ++ option_to_list o) late) (sym is) ∙ view

-- what is told of a number, said of the list that contracts see and of the number that was given
pub told : (held all : List ℕ) (is : Bool) (given number : ℕ) → held ≡ all → given ≡ number
    → has held given ≡ is → is ≡ has all number
told held all is given number view same h = sym h ∙ ap (λ (s : List ℕ). has s given) view ∙ ap (λ (m : ℕ). has all m) same

-- the same of a list that has one number more
pub one_more : (held old : List ℕ) (is : Bool) (given number n : ℕ) → held ≡ old → given ≡ number
    → is ≡ (has held n || (given == n)) → is ≡ (has old n || (number == n))
one_more held old is given number n view same more =
    more ∙ ap (λ (s : List ℕ). has s n || (given == n)) view ∙ ap (λ (m : ℕ). has old n || (m == n)) same

-- whether a number is there: by the top alone where it is not below it

pub has_none : (lower : List Stretch) (late : BTreeSet ℕ) (n : ℕ) → AreInOrder lower None late → has (kept (lower ++ []) late.keys) n ≡ false
has_none lower late n h =
    has_kept (lower ++ []) late.keys n
    ∙ ap (λ (ss : List Stretch). covers (ss ++ []) n || among n late.keys) h.0
    ∙ h.1 n

pub has_above : (lower : List Stretch) (top : Stretch) (late : BTreeSet ℕ) (n : ℕ) → AreInOrder lower (Some top) late → top.last < n
    → has (kept (lower ++ top ∷ []) late.keys) n ≡ false
has_above lower top late n h above =
    has_kept (lower ++ top ∷ []) late.keys n
    ∙ ap (λ b. b || among n late.keys) (covers_above lower top 0 n h.0 above)
    ∙ false_from_ne_true _ (λ e. absurd (omega (arith, h.1 n e, above)))

pub has_top : (lower : List Stretch) (top : Stretch) (late : List ℕ) (n : ℕ) → top.first ≤ n → n ≤ top.last
    → has (kept (lower ++ top ∷ []) late) n ≡ true
has_top lower top late n from to =
    has_kept (lower ++ top ∷ []) late n
    ∙ ap (λ b. b || among n late) (covers_push lower top n ∙ or_right (covers lower n) _ (and_from (leb top.first n) (leb n top.last) (le-leb top.first n from) (le-leb n top.last to)))

pub has_lower : (lower : List Stretch) (top : Stretch) (late : List ℕ) (n : ℕ) → n < top.first
    → has (kept (lower ++ top ∷ []) late) n ≡ (has (numbers_in lower) n || among n late)
has_lower lower top late n below =
    has_kept (lower ++ top ∷ []) late n
    ∙ ap (λ b. b || among n late) (covers_push lower top n ∙ ap (λ b. covers lower n || (b && leb n top.last)) (lt-leb top.first n below) ∙ or_false (covers lower n) ∙ sym (has_stretches lower n))

-- a search

pub last_rises : (ss : List Stretch) (from : ℕ) → Rise from ss → IsNonDecreasingBy (λ s. s.last) ss
last_rises [] from h i j d le lt = absurd (omega (arith, lt))
last_rises (s ∷ ss) from h zero zero d le lt = omega arith
last_rises (s ∷ ss) from h zero (suc j) d le lt = omega (arith, last_from ss (s.last + 1) j d h.2 (omega (arith, lt)))
  where
    last_from : (ss : List Stretch) (from j : ℕ) (d : Stretch) → Rise from ss → j < length ss → from ≤ (get_or ss j d).last
    last_from [] from j d h lt = absurd (omega (arith, lt))
    last_from (s ∷ ss) from zero d h lt = omega (arith, h.0, h.1)
    last_from (s ∷ ss) from (suc j) d h lt = omega (arith, h.0, h.1, last_from ss (s.last + 1) j d h.2 (omega (arith, lt)))
last_rises (s ∷ ss) from h (suc i) zero d le lt = absurd (omega (arith, le))
last_rises (s ∷ ss) from h (suc i) (suc j) d le lt = last_rises ss (s.last + 1) h.2 i j d (omega (arith, le)) (omega (arith, lt))

abbrev pub found : Option Stretch → ℕ → Bool
found None n = false
found (Some s) n = leb s.first n

covers_at : (ss : List Stretch) (from n i : ℕ) → Rise from ss → i ≤ length ss
    → AllWithin (λ s. ltb s.last n ≡ true) ss 0 i → AllWithin (λ s. ltb s.last n ≡ false) ss i (length ss)
    → covers ss n ≡ found (slice_get ss i) n
covers_at [] from n i h le below above = refl
covers_at (s ∷ ss) from n zero h le below above =
    let here : n ≤ s.last = ltb-false _ _ (above 0 s (omega arith) (omega arith)) in
    ap (λ b. (leb s.first n && b) || covers ss n) (le-leb n s.last here)
    ∙ ap (λ b. (leb s.first n && true) || b) (covers_below ss (s.last + 1) n h.2 (omega (arith, here)))
    ∙ only (leb s.first n)
  where
    only : (b : Bool) → ((b && true) || false) ≡ b
    only true = refl
    only false = refl
covers_at (s ∷ ss) from n (suc i) h le below above =
    let here : s.last < n = ltb-true _ _ (below 0 s (omega arith) (omega arith)) in
    ap (λ b. b || covers ss n) (and_right (leb s.first n) _ (lt-leb n s.last here))
    ∙ covers_at ss (s.last + 1) n i h.2 (omega (arith, le))
    (λ k d low high. below (suc k) d (omega arith) (omega (arith, high)))
    (λ k d low high. above (suc k) d (omega (arith, low)) (omega (arith, high)))

pub has_at : (ss : List Stretch) (n i : ℕ) → Rise 0 ss → i ≤ length ss
    → AllWithin (λ s. ltb s.last n ≡ true) ss 0 i → AllWithin (λ s. ltb s.last n ≡ false) ss i (length ss)
    → found (slice_get ss i) n ≡ has (numbers_in ss) n
has_at ss n i h le below above = sym (has_stretches ss n ∙ covers_at ss 0 n i h le below above)
