-- Values under keys, and where a key stands.
use Rattle.std.proofs.Common.{◌≡◌, inl, inr, ℕ, zero, suc, ◌<◌, ◌≤◌, true, false, cond, ltb, List, [], ◌∷◌, length, slice_get, nat_eq, Some, None, refl, sym, ap, ◌∙◌, subst, arith}
use Rattle.std.specs.Prelude.{◌==◌, position}
use Rattle.std.specs.List.{AllZip, position_or_len}
use Rattle.std.specs.Map.{values_of}
use Rattle.std.specs.Option.{option_map}
use Rattle.std.proofs.lemmas.Bool.{eqb-true, eq-eqb, lt-ltb, le-ltb, ltb-true, ltb-false, false≢true}
use Rattle.std.proofs.lemmas.Option.{none-some, same_Some}
use Rattle.indexmap.specs.IndexMap.{set_value_at}
use Rattle.stream_core.specs.Tables.{change_place}
use Rattle.media_laws.specs.Listing.{IsIn}
use Rattle.media_laws.specs.Rules.{has}
use Rattle.media_play.proofs.Lists.{tested, any-from_in}

-- a key has a place exactly where it is there

module _ (k : ℕ) where
  abbrev first : List ℕ → ℕ
  first ns = position_or_len (nat_eq k) ns

  no_place : (ns : List ℕ) → length ns ≤ first ns → has ns k ≡ false
  no_place [] past = refl
  no_place (n ∷ ns) past =
      elim (tested (nat_eq k n)) [
        | inl t ↦ let none = rw t at past in absurd (omega arith)
        | inr t ↦
            let rest = rw t at past in
            let other : (n == k) ≡ false = elim (tested (n == k)) [ inl e ↦ absurd (false≢true (sym t ∙ eq-eqb k n (sym (eqb-true n k e)))) | inr e ↦ e ] in
            rw other (no_place ns (omega arith))
      ]

  at_place : (ns : List ℕ) → first ns < length ns → slice_get ns (first ns) ≡ Some k
  at_place [] within = absurd (omega arith)
  at_place (n ∷ ns) within =
      elim (tested (nat_eq k n)) [
        | inl t ↦ rw t (ap (λ (m : ℕ). Some m) (sym (eqb-true k n t)))
        | inr t ↦
            let rest = rw t at within in
            let more : first (n ∷ ns) ≡ suc (first ns) = rw t (omega arith) in
            subst (λ i. slice_get (n ∷ ns) i ≡ Some k) (sym more) (at_place ns (omega arith))
      ]

  pub position_first : (n : ℕ) (ns : List ℕ) → nat_eq k n ≡ true → position (nat_eq k) (n ∷ ns) ≡ Some 0
  position_first n ns t =
      let at : first (n ∷ ns) ≡ 0 = rw t refl in
      ap (λ m. cond (ltb m (length (n ∷ ns))) (Some m) None) at ∙ ap (λ b. cond b (Some 0) None) (lt-ltb 0 (length (n ∷ ns)) (omega arith))

  pub position_next : (n : ℕ) (ns : List ℕ) → nat_eq k n ≡ false → position (nat_eq k) (n ∷ ns) ≡ option_map suc (position (nat_eq k) ns)
  position_next n ns t =
      let at : first (n ∷ ns) ≡ suc (first ns) = rw t (omega arith) in
      ap (λ m. cond (ltb m (length (n ∷ ns))) (Some m) None) at
      ∙ elim (tested (ltb (first ns) (length ns))) [
        | inl u ↦
            let less = ltb-true (first ns) (length ns) u in
            ap (λ b. cond b (Some (suc (first ns))) None) (lt-ltb (suc (first ns)) (length (n ∷ ns)) (omega (arith, less)))
            ∙ sym (ap (λ b. option_map suc (cond b (Some (first ns)) None)) u)
        | inr u ↦
            let more = ltb-false (first ns) (length ns) u in
            ap (λ b. cond b (Some (suc (first ns))) None) (le-ltb (suc (first ns)) (length (n ∷ ns)) (omega (arith, more)))
            ∙ sym (ap (λ b. option_map suc (cond b (Some (first ns)) None)) u)
      ]

  pub key_at : (ns : List ℕ) (i : ℕ) → position (nat_eq k) ns ≡ Some i → slice_get ns i ≡ Some k
  key_at ns i e =
      elim (tested (ltb (first ns) (length ns))) [
        | inl t ↦
            let found = rw t at e in
            let is : first ns ≡ i = same_Some (first ns) i found in
            subst (λ j. slice_get ns j ≡ Some k) is (at_place ns (ltb-true _ _ t))
        | inr t ↦ let found = rw t at e in absurd (none-some i found)
      ]

  pub key_absent : (ns : List ℕ) → position (nat_eq k) ns ≡ None → has ns k ≡ false
  key_absent ns e =
      elim (tested (ltb (first ns) (length ns))) [
        | inl t ↦ let found = rw t at e in absurd (none-some (first ns) (sym found))
        | inr t ↦ no_place ns (ltb-false _ _ t)
      ]

pub in_from_get : {X : Type 0} (x : X) (xs : List X) (at : ℕ) → slice_get xs at ≡ Some x → IsIn x xs
in_from_get x [] at e = absurd (none-some x e)
in_from_get x (y ∷ ys) zero e = inl (sym (same_Some y x e))
in_from_get x (y ∷ ys) (suc at) e = inr (in_from_get x ys at e)

pub has_from_get : (n : ℕ) (ns : List ℕ) (at : ℕ) → slice_get ns at ≡ Some n → has ns n ≡ true
has_from_get n ns at e = any-from_in (λ x. x == n) n ns (in_from_get n ns at e) (eq-eqb n n refl)

-- what goes along with a key
pub zip_at : {A B : Type 0} (R : A → B → Type 0) (xs : List A) (ys : List B) (i : ℕ) (x : A) → slice_get xs i ≡ Some x → AllZip R xs ys
    → (y : B) × (slice_get ys i ≡ Some y) × R x y
zip_at R [] ys i x at h = absurd (none-some x at)
zip_at R (z ∷ xs) [] i x at h = absurd h
zip_at R (z ∷ xs) (y ∷ ys) zero x at h = (y, refl, subst (λ w. R w y) (same_Some z x at) h.0)
zip_at R (z ∷ xs) (y ∷ ys) (suc i) x at h = zip_at R xs ys i x at h.1

pub zip_weaker : {A B : Type 0} (R S : A → B → Type 0) (xs : List A) (ys : List B) → ((x : A) (y : B) → IsIn x xs → R x y → S x y) → AllZip R xs ys → AllZip S xs ys
zip_weaker R S [] [] says h = h
zip_weaker R S [] (y ∷ ys) says h = absurd h
zip_weaker R S (x ∷ xs) [] says h = absurd h
zip_weaker R S (x ∷ xs) (y ∷ ys) says h = (says x y (inl refl) h.0, zip_weaker R S xs ys (λ a b i. says a b (inr i)) h.1)

-- a value written over at its place is a value that changed there
pub set_change : {X : Type 0} (f : X → X) (es : List (ℕ × X)) (i : ℕ) (x : X) → slice_get (values_of es) i ≡ Some x → set_value_at es i (f x) ≡ change_place f es i
set_change f [] i x at = refl
set_change f (e ∷ es) zero x at = ap (λ y. (e.0, f y) ∷ es) (sym (same_Some e.1 x at))
set_change f (e ∷ es) (suc i) x at = ap (λ l. e ∷ l) (set_change f es i x at)
