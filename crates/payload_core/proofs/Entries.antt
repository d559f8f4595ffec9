-- Packets under their numbers, and numbers, that rise.
use Rattle.std.proofs.Common.{◌≡◌, ℕ, ◌+◌, ◌<◌, ◌≤◌, Bool, true, false, List, [], ◌∷◌, Option, Some, None, refl, sym, ap, ◌∙◌, arith, eqb, ltb, cond, ◌||◌, inl, inr}
use Rattle.std.proofs.lemmas.Bool.{eq-eqb, ne_eqb, lt-ltb, le-ltb, cases_order}
use Rattle.std.specs.declared.cmp.Ordering.TheVariants.{Less, Equal, Greater}
use Rattle.std.specs.Ordering.{nat_cmp}
use Rattle.std.specs.Map.{lookup}
use Rattle.std.specs.BTreeMap.{is_at, insert_entry}
use Rattle.std.specs.BTreeSet.{insert_key}
use Rattle.std.specs.List.{list_any}
use Rattle.payload_core.specs.History.{Rise, NumbersRise}

cmp_less : (m n : ℕ) → m < n → nat_cmp m n ≡ Less
cmp_less m n lt = let t : ltb m n ≡ true = lt-ltb m n lt in rw t refl

cmp_same : (m n : ℕ) → m ≡ n → nat_cmp m n ≡ Equal
cmp_same m n e =
    let t : ltb m n ≡ false = le-ltb m n (omega arith) in
    let q : eqb m n ≡ true = eq-eqb m n e in
    rw (t, q) refl

cmp_more : (m n : ℕ) → n < m → nat_cmp m n ≡ Greater
cmp_more m n lt =
    let t : ltb m n ≡ false = le-ltb m n (omega arith) in
    let q : eqb m n ≡ false = ne_eqb m n (λ e. absurd (omega arith)) in
    rw (t, q) refl

at_same : (m n : ℕ) → m ≡ n → is_at (nat_cmp m) n ≡ true
at_same m n e = rw (cmp_same m n e) refl

at_other : (m n : ℕ) → (m ≡ n → ⊥) → is_at (nat_cmp m) n ≡ false
at_other m n ne = elim (cases_order m n) [
  | inl e ↦ absurd (ne e)
  | inr o ↦ elim o [ inl lt ↦ rw (cmp_less m n lt) refl | inr gt ↦ rw (cmp_more m n gt) refl ]
]

abbrev pub under : {X : Type 0} → ℕ → List (ℕ × X) → Option X
under n es = lookup (is_at (nat_cmp n)) es

abbrev pub among : ℕ → List ℕ → Bool
among n ns = list_any (is_at (nat_cmp n)) ns

pub under_head : {X : Type 0} (n : ℕ) (e : ℕ × X) (es : List (ℕ × X)) → n ≡ e.0 → under n (e ∷ es) ≡ Some e.1
under_head n e es same = rw (at_same n e.0 same) refl

pub under_tail : {X : Type 0} (n : ℕ) (e : ℕ × X) (es : List (ℕ × X)) → (n ≡ e.0 → ⊥) → under n (e ∷ es) ≡ under n es
under_tail n e es other = rw (at_other n e.0 other) refl

pub under_below : {X : Type 0} (es : List (ℕ × X)) (from n : ℕ) → Rise from es → n < from → under n es ≡ None
under_below [] from n r lt = refl
under_below (e ∷ es) from n r lt =
    under_tail n e es (λ same. absurd (omega (arith, r.0))) ∙ under_below es (e.0 + 1) n r.1 (omega (arith, r.0))

pub under_inserted : {X : Type 0} (es : List (ℕ × X)) (n : ℕ) (x : X) → under n (insert_entry nat_cmp es n x) ≡ Some x
under_inserted [] n x = under_head n (n, x) [] refl
under_inserted (e ∷ es) n x = elim (cases_order n e.0) [
  | inl same ↦ rw (cmp_same n e.0 same) (under_head n (e.0, x) es same)
  | inr o ↦ elim o [
    | inl lt ↦ rw (cmp_less n e.0 lt) (under_head n (n, x) (e ∷ es) refl)
    | inr gt ↦ rw (cmp_more n e.0 gt) (under_tail n e (insert_entry nat_cmp es n x) (λ same. absurd (omega arith)) ∙ under_inserted es n x)
  ]
]

pub under_others : {X : Type 0} (es : List (ℕ × X)) (n m : ℕ) (x : X) → (m ≡ n → ⊥) → under m (insert_entry nat_cmp es n x) ≡ under m es
under_others [] n m x ne = under_tail m (n, x) [] ne
under_others (e ∷ es) n m x ne = elim (cases_order n e.0) [
  | inl same ↦
      rw (cmp_same n e.0 same)
      (under_tail m (e.0, x) es (λ at. ne (at ∙ sym same)) ∙ sym (under_tail m e es (λ at. ne (at ∙ sym same))))
  | inr o ↦ elim o [
    | inl lt ↦ rw (cmp_less n e.0 lt) (under_tail m (n, x) (e ∷ es) ne)
    | inr gt ↦ rw (cmp_more n e.0 gt) (ap (λ o. cond (is_at (nat_cmp m) e.0) (Some e.1) o) (under_others es n m x ne))
  ]
]

pub rise_inserted : {X : Type 0} (es : List (ℕ × X)) (from n : ℕ) (x : X) → Rise from es → from ≤ n → Rise from (insert_entry nat_cmp es n x)
rise_inserted [] from n x r le = (le, tt)
rise_inserted (e ∷ es) from n x r le = elim (cases_order n e.0) [
  | inl same ↦ rw (cmp_same n e.0 same) (r.0, r.1)
  | inr o ↦ elim o [
    | inl lt ↦ rw (cmp_less n e.0 lt) (le, (omega arith, r.1))
    | inr gt ↦ rw (cmp_more n e.0 gt) (r.0, rise_inserted es (e.0 + 1) n x r.1 (omega arith))
  ]
]

pub rise_later : {X : Type 0} (es : List (ℕ × X)) (from : ℕ) → Rise from es → Rise 0 es
rise_later [] from r = tt
rise_later (e ∷ es) from r = (omega arith, r.1)

pub among_head : (n m : ℕ) (ns : List ℕ) → n ≡ m → among n (m ∷ ns) ≡ true
among_head n m ns same = rw (at_same n m same) refl

pub among_tail : (n m : ℕ) (ns : List ℕ) → (n ≡ m → ⊥) → among n (m ∷ ns) ≡ among n ns
among_tail n m ns other = rw (at_other n m other) refl

pub among_below : (ns : List ℕ) (from n : ℕ) → NumbersRise from ns → n < from → among n ns ≡ false
among_below [] from n r lt = refl
among_below (m ∷ ns) from n r lt =
    among_tail n m ns (λ same. absurd (omega (arith, r.0))) ∙ among_below ns (m + 1) n r.1 (omega (arith, r.0))

pub among_inserted : (ns : List ℕ) (n : ℕ) → among n (insert_key nat_cmp ns n) ≡ true
among_inserted [] n = among_head n n [] refl
among_inserted (m ∷ ns) n = elim (cases_order n m) [
  | inl same ↦ rw (cmp_same n m same) (among_head n m ns same)
  | inr o ↦ elim o [
    | inl lt ↦ rw (cmp_less n m lt) (among_head n n (m ∷ ns) refl)
    | inr gt ↦ rw (cmp_more n m gt) (among_tail n m (insert_key nat_cmp ns n) (λ same. absurd (omega arith)) ∙ among_inserted ns n)
  ]
]

pub among_others : (ns : List ℕ) (n k : ℕ) → (k ≡ n → ⊥) → among k (insert_key nat_cmp ns n) ≡ among k ns
among_others [] n k ne = among_tail k n [] ne
among_others (m ∷ ns) n k ne = elim (cases_order n m) [
  | inl same ↦ rw (cmp_same n m same) refl
  | inr o ↦ elim o [
    | inl lt ↦ rw (cmp_less n m lt) (among_tail k n (m ∷ ns) ne)
    | inr gt ↦ rw (cmp_more n m gt) (ap (λ b. is_at (nat_cmp k) m || b) (among_others ns n k ne))
  ]
]

pub numbers_rise_inserted : (ns : List ℕ) (from n : ℕ) → NumbersRise from ns → from ≤ n → NumbersRise from (insert_key nat_cmp ns n)
numbers_rise_inserted [] from n r le = (le, tt)
numbers_rise_inserted (m ∷ ns) from n r le = elim (cases_order n m) [
  | inl same ↦ rw (cmp_same n m same) (r.0, r.1)
  | inr o ↦ elim o [
    | inl lt ↦ rw (cmp_less n m lt) (le, (omega arith, r.1))
    | inr gt ↦ rw (cmp_more n m gt) (r.0, numbers_rise_inserted ns (m + 1) n r.1 (omega arith))
  ]
]
