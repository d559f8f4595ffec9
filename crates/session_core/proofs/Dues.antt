-- The first place where a test holds.
use Rattle.std.proofs.Common.{◌≡◌, ℕ, zero, suc, ◌+◌, ◌≤◌, Bool, true, false, List, [], ◌∷◌, Option, Some, None, length, take, slice_get, refl, sym, ap, ◌∙◌, add-one}
use Rattle.std.proofs.lemmas.List.{take_all}
use Rattle.std.specs.Prelude.{if◌then◌else◌}
use Rattle.std.specs.Map.{values_of}
use Rattle.std.specs.Option.{option_map}
use Rattle.stream_core.specs.Pauses.{first_where}

none_here : (b : Bool) (o : Option ℕ) → (if b then Some zero else option_map suc o) ≡ None → (b ≡ false) × (o ≡ None)
none_here true o h = absurd cc
none_here false None h = (refl, refl)
none_here false (Some i) h = absurd cc

module _ {X : Type 0} (p : X → Bool) where
  none_suc : (es : List (ℕ × X)) (i : ℕ) (x : X) → first_where p (take i es) ≡ None → slice_get (values_of es) i ≡ Some x → p x ≡ false
      → first_where p (take (suc i) es) ≡ None
  none_suc [] i x h at not = absurd cc
  none_suc (e ∷ es) zero x h at not =
      let same : e.1 ≡ x = cc in
      ap (λ b. if b then Some zero else None) (ap p same ∙ not)
  none_suc (e ∷ es) (suc i) x h at not =
      let k = none_here (p e.1) (first_where p (take i es)) h in
      let rest = none_suc es i x k.1 at not in
      λ j. if k.0 j then Some zero else option_map suc (rest j)

  -- nor does it hold of one value more
  pub none_more : (es : List (ℕ × X)) (i : ℕ) (x : X) → first_where p (take i es) ≡ None → slice_get (values_of es) i ≡ Some x → p x ≡ false
      → first_where p (take (i + 1) es) ≡ None
  none_more es i x h at not = ap (λ n. first_where p (take n es)) (add-one i) ∙ none_suc es i x h at not

  -- the value at a place is the first
  pub found_at : (es : List (ℕ × X)) (i : ℕ) (x : X) → first_where p (take i es) ≡ None → slice_get (values_of es) i ≡ Some x → p x ≡ true
      → Some i ≡ first_where p es
  found_at [] i x h at is = absurd cc
  found_at (e ∷ es) zero x h at is =
      let same : e.1 ≡ x = cc in
      sym (ap (λ b. if b then Some zero else option_map suc (first_where p es)) (ap p same ∙ is))
  found_at (e ∷ es) (suc i) x h at is =
      let k = none_here (p e.1) (first_where p (take i es)) h in
      let rest = found_at es i x k.1 at is in
      λ j. if (sym k.0) j then Some zero else option_map suc (rest j)

  -- it holds of none
  pub found_none : (es : List (ℕ × X)) (i : ℕ) → first_where p (take i es) ≡ None → length es ≤ i → None ≡ first_where p es
  found_none es i h long = sym h ∙ ap (first_where p) (take_all i es long)
