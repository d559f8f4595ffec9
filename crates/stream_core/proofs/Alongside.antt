-- Two tables with the same keys, whose values go along.
use Rattle.std.proofs.Common.{◌≡◌, ℕ, zero, suc, ◌+◌, ◌≤◌, List, [], ◌∷◌, ◌++◌, Option, Some, None, is_some, false, length, take, drop, slice_get, nat_eq, position, refl, sym, ap, subst, ◌∙◌, add-one}
use Rattle.std.proofs.lemmas.List.{take_all, drop_all, append-nil}
use Rattle.std.specs.Map.{keys_of, values_of}
use Rattle.std.specs.Option.{option_map_or}
use Rattle.indexmap.specs.IndexMap.{IndexMap, get, insert_entry, set_value_at}
use Rattle.indexmap.proofs.CallerLemmas.{insert_entry-new}
use Rattle.indexmap.proofs.MapLemmas.{some_index}
use Rattle.stream_core.specs.Tables.{place_of, each, change_place, change_at, Along}

-- a value is written over by itself
pub set_same : {K X : Type 0} (xs : List (K × X)) (i : ℕ) (x new : X) → slice_get (values_of xs) i ≡ Some x → new ≡ x → set_value_at xs i new ≡ xs
set_same [] i x new at same = refl
set_same (z ∷ xs) zero x new at same = let e : new ≡ z.1 = cc in λ j. (z.0, e j) ∷ xs
set_same (z ∷ xs) (suc i) x new at same = ap (λ l. z ∷ l) (set_same xs i x new at same)

-- one more value changes
change_suc : {X : Type 0} (f : X → X) (es : List (ℕ × X)) (i : ℕ) → change_place f (each f (take i es) ++ drop i es) i ≡ each f (take (suc i) es) ++ drop (suc i) es
change_suc f [] zero = refl
change_suc f [] (suc i) = refl
change_suc f (e ∷ es) zero = refl
change_suc f (e ∷ es) (suc i) = ap (λ l. (e.0, f e.1) ∷ l) (change_suc f es i)

pub change_more : {X : Type 0} (f : X → X) (es : List (ℕ × X)) (i : ℕ) → change_place f (each f (take i es) ++ drop i es) i ≡ each f (take (i + 1) es) ++ drop (i + 1) es
change_more f es i = change_suc f es i ∙ ap (λ n. each f (take n es) ++ drop n es) (sym (add-one i))

-- the front of the values has changed, at the end all of them
pub each_all : {X : Type 0} (f : X → X) (es : List (ℕ × X)) (i : ℕ) → length es ≤ i → each f (take i es) ++ drop i es ≡ each f es
each_all f es i h = (λ j. each f (take_all i es h j) ++ drop_all i es h j) ∙ append-nil (each f es)

module _ {A B : Type 0} (R : A → B → Type 0) where
  pub keys_along : (xs : List (ℕ × A)) (ys : List (ℕ × B)) → Along R xs ys → keys_of xs ≡ keys_of ys
  keys_along [] [] h = refl
  keys_along [] (y ∷ ys) h = absurd h
  keys_along (x ∷ xs) [] h = absurd h
  keys_along (x ∷ xs) (y ∷ ys) h = λ i. h.0.0 i ∷ keys_along xs ys h.1 i

  -- the place of a key is the same
  pub place_along : (xs : List (ℕ × A)) (ys : List (ℕ × B)) (k : ℕ) → Along R xs ys → place_of k xs ≡ place_of k ys
  place_along xs ys k h = ap (position (nat_eq k)) (keys_along xs ys h)

  -- one value changes
  pub change_along : (xs : List (ℕ × A)) (ys : List (ℕ × B)) (i : ℕ) (x new : A) (f : B → B) → Along R xs ys → slice_get (values_of xs) i ≡ Some x → ((y : B) → R x y → R new (f y))
      → Along R (set_value_at xs i new) (change_place f ys i)
  change_along [] [] i x new f h at step = h
  change_along [] (y ∷ ys) i x new f h at step = absurd h
  change_along (z ∷ xs) [] i x new f h at step = absurd h
  change_along (z ∷ xs) (y ∷ ys) zero x new f h at step = let e : z.1 ≡ x = cc in ((h.0.0, step y.1 (subst (λ w. R w y.1) e h.0.1)), h.1)
  change_along (z ∷ xs) (y ∷ ys) (suc i) x new f h at step = (h.0, change_along xs ys i x new f h.1 at step)

  -- one more value of the table changes
  pub each_along : (xs : List (ℕ × A)) (ys : List (ℕ × B)) (i : ℕ) (x new : A) (f : B → B) → Along R xs (each f (take i ys) ++ drop i ys) → slice_get (values_of xs) i ≡ Some x → ((y : B) → R x y → R new (f y))
      → Along R (set_value_at xs i new) (each f (take (i + 1) ys) ++ drop (i + 1) ys)
  each_along xs ys i x new f h at step = subst (Along R (set_value_at xs i new)) (change_more f ys i) (change_along xs (each f (take i ys) ++ drop i ys) i x new f h at step)

  pub length_along : (xs : List (ℕ × A)) (ys : List (ℕ × B)) → Along R xs ys → length xs ≡ length ys
  length_along [] [] h = refl
  length_along [] (y ∷ ys) h = absurd h
  length_along (x ∷ xs) [] h = absurd h
  length_along (x ∷ xs) (y ∷ ys) h = ap suc (length_along xs ys h.1)

  -- the first value under a key changes
  pub change_at_along : (xs : List (ℕ × A)) (ys : List (ℕ × B)) (k i : ℕ) (x new : A) (f : B → B) → Along R xs ys → place_of k xs ≡ Some i → slice_get (values_of xs) i ≡ Some x → ((y : B) → R x y → R new (f y))
      → Along R (set_value_at xs i new) (change_at k f ys)
  change_at_along xs ys k i x new f h place at step =
      subst (Along R (set_value_at xs i new)) (sym (ap (λ o. option_map_or (change_place f ys) o ys) (sym (place_along xs ys k h) ∙ place))) (change_along xs ys i x new f h at step)

  -- no value has the key
  pub change_at_none : (xs : List (ℕ × A)) (ys : List (ℕ × B)) (k : ℕ) (f : B → B) → Along R xs ys → place_of k xs ≡ None → Along R xs (change_at k f ys)
  change_at_none xs ys k f h place = subst (Along R xs) (sym (ap (λ o. option_map_or (change_place f ys) o ys) (sym (place_along xs ys k h) ∙ place))) h

  -- what a value goes along with
  pub value_along : (xs : List (ℕ × A)) (ys : List (ℕ × B)) (i : ℕ) (x : A) → Along R xs ys → slice_get (values_of xs) i ≡ Some x → (y : B) × (slice_get (values_of ys) i ≡ Some y) × R x y
  value_along [] ys i x h at = absurd cc
  value_along (z ∷ xs) [] i x h at = absurd h
  value_along (z ∷ xs) (y ∷ ys) zero x h at = let same : z.1 ≡ x = cc in (y.1, refl, subst (λ w. R w y.1) same h.0.1)
  value_along (z ∷ xs) (y ∷ ys) (suc i) x h at = value_along xs ys i x h.1 at

  -- one more value
  pub along_more : (xs : List (ℕ × A)) (ys : List (ℕ × B)) (k : ℕ) (x : A) (y : B) → Along R xs ys → R x y → Along R (xs ++ (k, x) ∷ []) (ys ++ (k, y) ∷ [])
  along_more [] [] k x y h r = ((refl, r), tt)
  along_more [] (b ∷ ys) k x y h r = absurd h
  along_more (a ∷ xs) [] k x y h r = absurd h
  along_more (a ∷ xs) (b ∷ ys) k x y h r = (h.0, along_more xs ys k x y h.1 r)

is_none : {X : Type 0} (o : Option X) → is_some o ≡ false → o ≡ None
is_none None e = refl
is_none (Some x) e = absurd cc

-- a value under a key that has no place goes last
pub insert_last : {X S : Type 0} (m : IndexMap ℕ X S) (k : ℕ) (x : X) (new seen : List (ℕ × X)) → m.entries ≡ seen → place_of k seen ≡ None → new ≡ insert_entry nat_eq m.entries k x → new ≡ seen ++ (k, x) ∷ []
insert_last m k x new seen view none inserted =
    let absent : get nat_eq m k ≡ None = is_none (get nat_eq m k) (sym (some_index (nat_eq k) m.entries) ∙ ap is_some (ap (place_of k) view ∙ none)) in
    inserted ∙ insert_entry-new nat_eq m k x absent ∙ ap (λ l. l ++ (k, x) ∷ []) view
