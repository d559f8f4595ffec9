-- Whether a test holds of some value of a table.
use Rattle.std.proofs.Common.{◌≡◌, ℕ, zero, suc, ◌+◌, ◌≤◌, Bool, true, false, List, [], ◌∷◌, Some, length, take, slice_get, refl, sym, ap, ◌∙◌, add-one}
use Rattle.std.proofs.lemmas.List.{take_all}
use Rattle.std.specs.Prelude.{◌||◌}
use Rattle.std.specs.List.{list_any}
use Rattle.std.specs.Map.{values_of}

or_false : (a b : Bool) → (a || b) ≡ false → (a ≡ false) × (b ≡ false)
or_false true b h = absurd cc
or_false false b h = (refl, h)

or_true : (a b : Bool) → b ≡ true → (a || b) ≡ true
or_true true b h = refl
or_true false b h = h

module _ {X : Type 0} (p : X → Bool) where
  abbrev pub any_value : List (ℕ × X) → Bool
  any_value es = list_any (λ e. p e.1) es

  none_suc : (es : List (ℕ × X)) (i : ℕ) (x : X) → any_value (take i es) ≡ false → slice_get (values_of es) i ≡ Some x → p x ≡ false → any_value (take (suc i) es) ≡ false
  none_suc [] i x h at fails = absurd cc
  none_suc (e ∷ es) zero x h at fails =
      let same : e.1 ≡ x = cc in
      ap (λ b. b || false) (ap p same ∙ fails)
  none_suc (e ∷ es) (suc i) x h at fails =
      let k = or_false (p e.1) (any_value (take i es)) h in
      let rest = none_suc es i x k.1 at fails in
      λ j. (k.0 j) || (rest j)

  -- nor of one value more
  pub none_more : (es : List (ℕ × X)) (i : ℕ) (x : X) → any_value (take i es) ≡ false → slice_get (values_of es) i ≡ Some x → p x ≡ false → any_value (take (i + 1) es) ≡ false
  none_more es i x h at fails = ap (λ n. any_value (take n es)) (add-one i) ∙ none_suc es i x h at fails

  -- nor of any
  pub none_all : (es : List (ℕ × X)) (i : ℕ) → any_value (take i es) ≡ false → length es ≤ i → any_value es ≡ false
  none_all es i h long = sym (ap any_value (take_all i es long)) ∙ h

  -- it holds of the value at a place
  pub any_there : (es : List (ℕ × X)) (i : ℕ) (x : X) → slice_get (values_of es) i ≡ Some x → p x ≡ true → any_value es ≡ true
  any_there [] i x at holds = absurd cc
  any_there (e ∷ es) zero x at holds =
      let same : e.1 ≡ x = cc in
      ap (λ b. b || any_value es) (ap p same ∙ holds)
  any_there (e ∷ es) (suc i) x at holds = or_true (p e.1) (any_value es) (any_there es i x at holds)
