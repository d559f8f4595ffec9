-- The first stream of which something is to be told.
use Rattle.std.proofs.Common.{◌≡◌, ℕ, zero, suc, ◌+◌, ◌≤◌, Bool, true, false, List, [], ◌∷◌, Option, Some, None, length, take, slice_get, refl, sym, ap, ◌∙◌, add-one, arith}
use Rattle.std.proofs.lemmas.List.{take_all}
use Rattle.std.specs.Prelude.{if◌then◌else◌}
use Rattle.std.specs.Map.{values_of}
use Rattle.std.specs.Option.{option_map}
use Rattle.indexmap.specs.IndexMap.{set_value_at}
use Rattle.stream_core.specs.Pauses.{first_where}

none_here : (b : Bool) (o : Option ℕ) → (if b then Some zero else option_map suc o) ≡ None → (b ≡ false) × (o ≡ None)
none_here true o h = absurd cc
none_here false None h = (refl, refl)
none_here false (Some i) h = absurd cc

module _ {X : Type 0} (p : X → Bool) where
  none_cons : (e : ℕ × X) (es : List (ℕ × X)) → p e.1 ≡ false → first_where p es ≡ None → first_where p (e ∷ es) ≡ None
  none_cons e es not rest = λ j. if not j then Some zero else option_map suc (rest j)

  none_suc : (es : List (ℕ × X)) (i : ℕ) (x : X) → first_where p (take i es) ≡ None → slice_get (values_of es) i ≡ Some x → p x ≡ false → first_where p (take (suc i) es) ≡ None
  none_suc [] i x h at not = absurd cc
  none_suc (e ∷ es) zero x h at not =
      let same : e.1 ≡ x = cc in
      none_cons e [] (ap p same ∙ not) refl
  none_suc (e ∷ es) (suc i) x h at not =
      let k = none_here (p e.1) (first_where p (take i es)) h in
      none_cons e (take (suc i) es) k.0 (none_suc es i x k.1 at not)

  -- nor does it hold of one value more
  pub none_more : (es : List (ℕ × X)) (i : ℕ) (x : X) → first_where p (take i es) ≡ None → slice_get (values_of es) i ≡ Some x → p x ≡ false → first_where p (take (i + 1) es) ≡ None
  none_more es i x h at not = ap (λ n. first_where p (take n es)) (add-one i) ∙ none_suc es i x h at not

  -- the value at a place is the first
  pub found_at : (es : List (ℕ × X)) (i : ℕ) (x : X) → first_where p (take i es) ≡ None → slice_get (values_of es) i ≡ Some x → p x ≡ true → Some i ≡ first_where p es
  found_at [] i x h at is = absurd cc
  found_at (e ∷ es) zero x h at is =
      let same : e.1 ≡ x = cc in
      sym (ap (λ b. if b then Some zero else option_map suc (first_where p es)) (ap p same ∙ is))
  found_at (e ∷ es) (suc i) x h at is =
      let k = none_here (p e.1) (first_where p (take i es)) h in
      let rest = found_at es i x k.1 at is in
      λ j. if (sym k.0) j then Some zero else option_map suc (rest j)

  -- it holds of none
  pub found_none : (es : List (ℕ × X)) (i : ℕ) → first_where p (take i es) ≡ None → length es ≤ i → None ≡ first_where p es
  found_none es i h long = sym h ∙ ap (first_where p) (take_all i es long)

  -- then also of none in a shorter front
  pub none_before : (es : List (ℕ × X)) (i n : ℕ) → i ≤ n → first_where p (take n es) ≡ None → first_where p (take i es) ≡ None
  none_before [] zero n le h = refl
  none_before [] (suc i) n le h = refl
  none_before (e ∷ es) zero n le h = refl
  none_before (e ∷ es) (suc i) zero le h = absurd (omega arith)
  none_before (e ∷ es) (suc i) (suc n) le h =
      let k = none_here (p e.1) (first_where p (take n es)) h in
      let less : i ≤ n = omega arith in
      none_cons e (take i es) k.0 (none_before es i n less k.1)

  -- where a value behind the front is written over
  pub none_behind : (es : List (ℕ × X)) (i n : ℕ) (x : X) → n ≤ i → first_where p (take n es) ≡ None → first_where p (take n (set_value_at es i x)) ≡ None
  none_behind [] i n x le h = h
  none_behind (e ∷ es) zero zero x le h = refl
  none_behind (e ∷ es) zero (suc n) x le h = absurd (omega arith)
  none_behind (e ∷ es) (suc i) zero x le h = refl
  none_behind (e ∷ es) (suc i) (suc n) x le h =
      let k = none_here (p e.1) (first_where p (take n es)) h in
      let less : n ≤ i = omega arith in
      none_cons e (take n (set_value_at es i x)) k.0 (none_behind es i n x less k.1)

  -- and where it does not hold of the new value
  pub none_over : (es : List (ℕ × X)) (i n : ℕ) (x : X) → p x ≡ false → first_where p (take n es) ≡ None → first_where p (take n (set_value_at es i x)) ≡ None
  none_over [] i n x not h = h
  none_over (e ∷ es) zero zero x not h = refl
  none_over (e ∷ es) zero (suc n) x not h =
      let k = none_here (p e.1) (first_where p (take n es)) h in
      none_cons (e.0, x) (take n es) not k.1
  none_over (e ∷ es) (suc i) zero x not h = refl
  none_over (e ∷ es) (suc i) (suc n) x not h =
      let k = none_here (p e.1) (first_where p (take n es)) h in
      none_cons e (take n (set_value_at es i x)) k.0 (none_over es i n x not k.1)

  -- and where it holds of the new value as of the old one
  pub none_same : (es : List (ℕ × X)) (i n : ℕ) (old x : X) → slice_get (values_of es) i ≡ Some old → p x ≡ p old → first_where p (take n es) ≡ None → first_where p (take n (set_value_at es i x)) ≡ None
  none_same [] i n old x at same h = h
  none_same (e ∷ es) zero zero old x at same h = refl
  none_same (e ∷ es) zero (suc n) old x at same h =
      let k = none_here (p e.1) (first_where p (take n es)) h in
      let here : old ≡ e.1 = cc in
      none_cons (e.0, x) (take n es) (same ∙ ap p here ∙ k.0) k.1
  none_same (e ∷ es) (suc i) zero old x at same h = refl
  none_same (e ∷ es) (suc i) (suc n) old x at same h =
      let k = none_here (p e.1) (first_where p (take n es)) h in
      none_cons e (take n (set_value_at es i x)) k.0 (none_same es i n old x at same k.1)
