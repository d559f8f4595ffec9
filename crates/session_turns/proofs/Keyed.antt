-- Values under keys, and the numbers seen under an SSRC.
use Rattle.std.proofs.Common.{◌≡◌, inl, inr, ℕ, zero, suc, List, [], ◌∷◌, ◌++◌, slice_get, nat_eq, Option, Some, None, refl, sym, ap, ◌∙◌}
use Rattle.std.specs.Prelude.{position, option_and_then}
use Rattle.std.specs.Map.{keys_of, values_of}
use Rattle.std.specs.Option.{option_map, option_map_or}
use Rattle.std.proofs.lemmas.Bool.{eq-eqb, ne_eqb, cases_eq}
use Rattle.rtp_base.specs.Window.{with_fresh}
use Rattle.stream_core.specs.Seen.{saw}
use Rattle.stream_core.specs.Tables.{place_of, value_under, change_place}
use Rattle.session_turns.proofs.Keys.{position_first, position_next, keys_changed}

module _ {X : Type 0} (k : ℕ) where
  pub place_first : (e : ℕ × X) (es : List (ℕ × X)) → k ≡ e.0 → place_of k (e ∷ es) ≡ Some 0
  place_first e es is = position_first k e.0 (keys_of es) (eq-eqb k e.0 is)

  pub place_next : (e : ℕ × X) (es : List (ℕ × X)) → (k ≡ e.0 → ⊥) → place_of k (e ∷ es) ≡ option_map suc (place_of k es)
  place_next e es other = position_next k e.0 (keys_of es) (ne_eqb k e.0 other)

  pub value_first : (e : ℕ × X) (es : List (ℕ × X)) → k ≡ e.0 → value_under k (e ∷ es) ≡ Some e.1
  value_first e es is = ap (option_and_then (slice_get (values_of (e ∷ es)))) (place_first e es is)

  pub value_next : (e : ℕ × X) (es : List (ℕ × X)) → (k ≡ e.0 → ⊥) → value_under k (e ∷ es) ≡ value_under k es
  value_next e es other = ap (option_and_then (slice_get (values_of (e ∷ es)))) (place_next e es other) ∙ go (place_of k es)
    where
      go : (o : Option ℕ) → option_and_then (slice_get (values_of (e ∷ es))) (option_map suc o) ≡ option_and_then (slice_get (values_of es)) o
      go None = refl
      go (Some i) = refl

-- the keys stay where a value changes

module _ {X : Type 0} where
  pub place_changed : (k : ℕ) (f : X → X) (es : List (ℕ × X)) (i : ℕ) → place_of k (change_place f es i) ≡ place_of k es
  place_changed k f es i = ap (position (nat_eq k)) (keys_changed f es i)

  pub changed_again : (f g : X → X) (es : List (ℕ × X)) (i : ℕ) → change_place g (change_place f es i) i ≡ change_place (λ x. g (f x)) es i
  changed_again f g [] i = refl
  changed_again f g (e ∷ es) zero = refl
  changed_again f g (e ∷ es) (suc i) = ap (λ l. e ∷ l) (changed_again f g es i)

  value_changed_at : (f : X → X) (es : List (ℕ × X)) (i : ℕ) → slice_get (values_of (change_place f es i)) i ≡ option_map f (slice_get (values_of es) i)
  value_changed_at f [] i = refl
  value_changed_at f (e ∷ es) zero = refl
  value_changed_at f (e ∷ es) (suc i) = value_changed_at f es i

  pub value_changed : (k : ℕ) (f : X → X) (es : List (ℕ × X)) (i : ℕ) (x : X) → place_of k es ≡ Some i → value_under k es ≡ Some x
      → value_under k (change_place f es i) ≡ Some (f x)
  value_changed k f es i x place value =
      ap (option_and_then (slice_get (values_of (change_place f es i)))) (place_changed k f es i ∙ place)
      ∙ value_changed_at f es i
      ∙ ap (option_map f) (sym (ap (option_and_then (slice_get (values_of es))) place) ∙ value)

-- the numbers that were seen

abbrev kept : ℕ → List ℕ → List ℕ
kept n xs = with_fresh None xs n

abbrev saw_at : ℕ → ℕ → List (ℕ × List ℕ) → Option ℕ → List (ℕ × List ℕ)
saw_at m n es o = option_map_or (change_place (kept n) es) o (es ++ (m, n ∷ []) ∷ [])

saw_first : (m n : ℕ) (e : ℕ × List ℕ) (es : List (ℕ × List ℕ)) → m ≡ e.0 → saw m n (e ∷ es) ≡ (e.0, kept n e.1) ∷ es
saw_first m n e es is = ap (saw_at m n (e ∷ es)) (place_first m e es is)

saw_next : (m n : ℕ) (e : ℕ × List ℕ) (es : List (ℕ × List ℕ)) → (m ≡ e.0 → ⊥) → saw m n (e ∷ es) ≡ e ∷ saw m n es
saw_next m n e es other = ap (saw_at m n (e ∷ es)) (place_next m e es other) ∙ go (place_of m es)
  where
    go : (o : Option ℕ) → saw_at m n (e ∷ es) (option_map suc o) ≡ e ∷ saw_at m n es o
    go None = refl
    go (Some i) = refl

-- what was seen under an SSRC after one more number
abbrev pub seen_more : ℕ → Option (List ℕ) → Option (List ℕ)
seen_more n o = Some (option_map_or (kept n) o (n ∷ []))

pub value_saw : (m n : ℕ) (es : List (ℕ × List ℕ)) → value_under m (saw m n es) ≡ seen_more n (value_under m es)
value_saw m n [] = value_first m (m, n ∷ []) [] refl
value_saw m n (e ∷ es) =
    elim (cases_eq m e.0) [
      | inl is ↦ ap (value_under m) (saw_first m n e es is) ∙ value_first m (e.0, kept n e.1) es is ∙ sym (ap (seen_more n) (value_first m e es is))
      | inr other ↦ ap (value_under m) (saw_next m n e es other) ∙ value_next m e (saw m n es) other ∙ value_saw m n es ∙ sym (ap (seen_more n) (value_next m e es other))
    ]

pub value_saw_other : (k m n : ℕ) (es : List (ℕ × List ℕ)) → (k ≡ m → ⊥) → value_under k (saw m n es) ≡ value_under k es
value_saw_other k m n [] other = value_next k (m, n ∷ []) [] other
value_saw_other k m n (e ∷ es) other =
    elim (cases_eq m e.0) [
      | inl is ↦
          ap (value_under k) (saw_first m n e es is)
          ∙ value_next k (e.0, kept n e.1) es (λ same. other (same ∙ sym is))
          ∙ sym (value_next k e es (λ same. other (same ∙ sym is)))
      | inr far ↦
          ap (value_under k) (saw_next m n e es far)
          ∙ elim (cases_eq k e.0) [
            | inl is ↦ value_first k e (saw m n es) is ∙ sym (value_first k e es is)
            | inr u ↦ value_next k e (saw m n es) u ∙ value_saw_other k m n es other ∙ sym (value_next k e es u)
          ]
    ]
