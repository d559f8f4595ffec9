-- Values under keys, as keys and values come and change.
use Rattle.std.proofs.Common.{◌≡◌, inl, inr, ℕ, zero, suc, Bool, true, false, cond, ltb, List, [], ◌∷◌, ◌++◌, length, slice_get, nat_eq, Option, Some, None, is_some, refl, sym, ap, ◌∙◌, arith}
use Rattle.std.specs.Prelude.{position, option_and_then}
use Rattle.std.specs.List.{position_or_len, filter}
use Rattle.std.specs.Map.{keys_of, values_of}
use Rattle.std.specs.Option.{option_map, option_map_or}
use Rattle.std.proofs.lemmas.Bool.{eq-eqb, ne_eqb, lt-ltb, le-ltb, ltb-true, ltb-false, cases_Bool, cases_eq}
use Rattle.stream_core.specs.Tables.{place_of, value_under, with_new, change_place, change_at, renamed}

module _ (k : ℕ) where
  abbrev first : List ℕ → ℕ
  first ns = position_or_len (nat_eq k) ns

  position_first : (n : ℕ) (ns : List ℕ) → nat_eq k n ≡ true → position (nat_eq k) (n ∷ ns) ≡ Some 0
  position_first n ns t =
      let at : first (n ∷ ns) ≡ 0 = rw t refl in
      ap (λ m. cond (ltb m (length (n ∷ ns))) (Some m) None) at ∙ ap (λ b. cond b (Some 0) None) (lt-ltb 0 (length (n ∷ ns)) (omega arith))

  position_next : (n : ℕ) (ns : List ℕ) → nat_eq k n ≡ false → position (nat_eq k) (n ∷ ns) ≡ option_map suc (position (nat_eq k) ns)
  position_next n ns t =
      let at : first (n ∷ ns) ≡ suc (first ns) = rw t (omega arith) in
      ap (λ m. cond (ltb m (length (n ∷ ns))) (Some m) None) at
      ∙ elim (cases_Bool (ltb (first ns) (length ns))) [
        | inl u ↦
            let less = ltb-true (first ns) (length ns) u in
            ap (λ b. cond b (Some (suc (first ns))) None) (lt-ltb (suc (first ns)) (length (n ∷ ns)) (omega (arith, less)))
            ∙ sym (ap (λ b. option_map suc (cond b (Some (first ns)) None)) u)
        | inr u ↦
            let more = ltb-false (first ns) (length ns) u in
            ap (λ b. cond b (Some (suc (first ns))) None) (le-ltb (suc (first ns)) (length (n ∷ ns)) (omega (arith, more)))
            ∙ sym (ap (λ b. option_map suc (cond b (Some (first ns)) None)) u)
      ]

none_suc : (o : Option ℕ) → is_some (option_map suc o) ≡ is_some o
none_suc None = refl
none_suc (Some i) = refl

module _ {X : Type 0} (k : ℕ) where
  pub place_first : (e : ℕ × X) (es : List (ℕ × X)) → k ≡ e.0 → place_of k (e ∷ es) ≡ Some 0
  place_first e es is = position_first k e.0 (keys_of es) (eq-eqb k e.0 is)

  pub place_next : (e : ℕ × X) (es : List (ℕ × X)) → (k ≡ e.0 → ⊥) → place_of k (e ∷ es) ≡ option_map suc (place_of k es)
  place_next e es other = position_next k e.0 (keys_of es) (ne_eqb k e.0 other)

  pub value_first : (e : ℕ × X) (es : List (ℕ × X)) → k ≡ e.0 → value_under k (e ∷ es) ≡ Some e.1
  value_first e es is = ap (option_and_then (slice_get (values_of (e ∷ es)))) (place_first e es is)

  pub value_next : (e : ℕ × X) (es : List (ℕ × X)) → (k ≡ e.0 → ⊥) → value_under k (e ∷ es) ≡ value_under k es
  value_next e es other = ap (option_and_then (slice_get (values_of (e ∷ es)))) (place_next e es other) ∙ go (place_of k es)
    where
      go : (o : Option ℕ) → option_and_then (slice_get (values_of (e ∷ es))) (option_map suc o) ≡ option_and_then (slice_get (values_of es)) o
      go None = refl
      go (Some i) = refl

  -- a key of some entry has a place, and of no other
  not_first : (e : ℕ × X) (es : List (ℕ × X)) → is_some (place_of k (e ∷ es)) ≡ false → k ≡ e.0 → ⊥
  not_first e es none is = let some : is_some (place_of k (e ∷ es)) ≡ true = ap is_some (place_first e es is) in absurd cc

  none_behind : (e : ℕ × X) (es : List (ℕ × X)) → is_some (place_of k (e ∷ es)) ≡ false → is_some (place_of k es) ≡ false
  none_behind e es none = sym (none_suc (place_of k es)) ∙ sym (ap is_some (place_next e es (not_first e es none))) ∙ none

  -- a key that has a place has a value
  pub value_some : (es : List (ℕ × X)) → is_some (place_of k es) ≡ true → (x : X) × (value_under k es ≡ Some x)
  value_some [] p = absurd cc
  value_some (e ∷ es) p =
      elim (cases_eq k e.0) [
        | inl is ↦ (e.1, value_first e es is)
        | inr other ↦
            let rest = value_some es (sym (none_suc (place_of k es)) ∙ sym (ap is_some (place_next e es other)) ∙ p) in
            (rest.0, value_next e es other ∙ rest.1)
      ]

  -- a value behind the others
  pub value_last : (es : List (ℕ × X)) (x : X) → is_some (place_of k es) ≡ false → value_under k (es ++ (k, x) ∷ []) ≡ Some x
  value_last [] x none = value_first (k, x) [] refl
  value_last (e ∷ es) x none = value_next e (es ++ (k, x) ∷ []) (not_first e es none) ∙ value_last es x (none_behind e es none)

  pub new_last : (es : List (ℕ × X)) (x : X) → is_some (place_of k es) ≡ false → with_new k x es ≡ es ++ (k, x) ∷ []
  new_last es x none = go (place_of k es) none
    where
      go : (o : Option ℕ) → is_some o ≡ false → option_map_or (λ (i : ℕ). es) o (es ++ (k, x) ∷ []) ≡ es ++ (k, x) ∷ []
      go None e = refl
      go (Some i) e = absurd cc

  pub value_new : (es : List (ℕ × X)) (x : X) → is_some (place_of k es) ≡ false → value_under k (with_new k x es) ≡ Some x
  value_new es x none = ap (value_under k) (new_last es x none) ∙ value_last es x none

  -- a key in the place of another one
  pub value_renamed : (es : List (ℕ × X)) (i : ℕ) (x : X) → is_some (place_of k es) ≡ false → slice_get (values_of es) i ≡ Some x → value_under k (renamed k es i) ≡ Some x
  value_renamed [] i x none at = absurd cc
  value_renamed (e ∷ es) zero x none at = value_first (k, e.1) es refl ∙ at
  value_renamed (e ∷ es) (suc i) x none at = value_next e (renamed k es i) (not_first e es none) ∙ value_renamed es i x (none_behind e es none) at

  pub place_renamed : (es : List (ℕ × X)) (i : ℕ) (x : X) → is_some (place_of k es) ≡ false → slice_get (values_of es) i ≡ Some x → place_of k (renamed k es i) ≡ Some i
  place_renamed [] i x none at = absurd cc
  place_renamed (e ∷ es) zero x none at = place_first (k, e.1) es refl
  place_renamed (e ∷ es) (suc i) x none at = place_next e (renamed k es i) (not_first e es none) ∙ ap (option_map suc) (place_renamed es i x (none_behind e es none) at)

-- a value that changes

module _ {X : Type 0} where
  keys_changed : (f : X → X) (es : List (ℕ × X)) (i : ℕ) → keys_of (change_place f es i) ≡ keys_of es
  keys_changed f [] i = refl
  keys_changed f (e ∷ es) zero = refl
  keys_changed f (e ∷ es) (suc i) = ap (λ ns. e.0 ∷ ns) (keys_changed f es i)

  pub place_changed : (k : ℕ) (f : X → X) (es : List (ℕ × X)) (i : ℕ) → place_of k (change_place f es i) ≡ place_of k es
  place_changed k f es i = ap (position (nat_eq k)) (keys_changed f es i)

  pub place_change_at : (k m : ℕ) (f : X → X) (es : List (ℕ × X)) → place_of k (change_at m f es) ≡ place_of k es
  place_change_at k m f es = go (place_of m es)
    where
      go : (o : Option ℕ) → place_of k (option_map_or (change_place f es) o es) ≡ place_of k es
      go None = refl
      go (Some i) = place_changed k f es i

  value_changed_at : (f : X → X) (es : List (ℕ × X)) (i : ℕ) → slice_get (values_of (change_place f es i)) i ≡ option_map f (slice_get (values_of es) i)
  value_changed_at f [] i = refl
  value_changed_at f (e ∷ es) zero = refl
  value_changed_at f (e ∷ es) (suc i) = value_changed_at f es i

  -- the value under a key changes at its place
  value_at : (k : ℕ) (f : X → X) (es : List (ℕ × X)) (o : Option ℕ) → place_of k es ≡ o
      → option_and_then (slice_get (values_of (option_map_or (change_place f es) o es))) (place_of k (option_map_or (change_place f es) o es)) ≡ option_map f (option_and_then (slice_get (values_of es)) o)
  value_at k f es None place = ap (option_and_then (slice_get (values_of es))) place
  value_at k f es (Some i) place = ap (option_and_then (slice_get (values_of (change_place f es i)))) (place_changed k f es i ∙ place) ∙ value_changed_at f es i

  pub value_change_at : (k : ℕ) (f : X → X) (es : List (ℕ × X)) → value_under k (change_at k f es) ≡ option_map f (value_under k es)
  value_change_at k f es = value_at k f es (place_of k es) refl

  pub value_changed : (k : ℕ) (f : X → X) (es : List (ℕ × X)) (i : ℕ) (x : X) → place_of k es ≡ Some i → value_under k es ≡ Some x
      → value_under k (change_place f es i) ≡ Some (f x)
  value_changed k f es i x place value =
      ap (option_and_then (slice_get (values_of (change_place f es i)))) (place_changed k f es i ∙ place)
      ∙ value_changed_at f es i
      ∙ ap (option_map f) (sym (ap (option_and_then (slice_get (values_of es))) place) ∙ value)

-- a value that passes a test stays where others are taken out
module _ {X : Type 0} (test : ℕ × X → Bool) (k : ℕ) (x : X) (passes : test (k, x) ≡ true) where
  value_by : (b : Bool) (e : ℕ × X) (es kept : List (ℕ × X)) → (k ≡ e.0 → ⊥) → value_under k kept ≡ Some x → value_under k (cond b (e ∷ kept) kept) ≡ Some x
  value_by true e es kept other rest = value_next k e kept other ∙ rest
  value_by false e es kept other rest = rest

  pub value_kept : (es : List (ℕ × X)) → value_under k es ≡ Some x → value_under k (filter test es) ≡ Some x
  value_kept [] has = has
  value_kept (e ∷ es) has =
      elim (cases_eq k e.0) [
        | inl is ↦
            let same : e.1 ≡ x = (let first = sym (value_first k e es is) ∙ has in cc) in
            let here : test e ≡ true = (λ j. test (sym is j, same j)) ∙ passes in
            ap (λ b. value_under k (cond b (e ∷ filter test es) (filter test es))) here ∙ value_first k e (filter test es) is ∙ ap Some same
        | inr other ↦ value_by (test e) e es (filter test es) other (value_kept es (sym (value_next k e es other) ∙ has))
      ]
