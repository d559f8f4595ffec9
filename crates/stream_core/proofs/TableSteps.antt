-- A table of streams, step by step.
use Rattle.std.proofs.Common.{◌≡◌, ℕ, zero, suc, ◌+◌, Bool, true, false, cond, List, [], ◌∷◌, ◌++◌, Option, Some, None, is_some, length, take, drop, slice_get, nat_eq, refl, sym, ap, subst, ◌∙◌, add-one}
use Rattle.std.specs.Map.{keys_of, values_of}
use Rattle.std.specs.Option.{option_map_or}
use Rattle.indexmap.specs.IndexMap.{set_value_at}
use Rattle.stream_core.specs.Tables.{place_of, without_key, with_new, each, Along}
use Rattle.stream_core.proofs.Alongside.{place_along, along_more}

pub length_set_value_at : {X : Type 0} (es : List (ℕ × X)) (i : ℕ) (w : X) → length (set_value_at es i w) ≡ length es
length_set_value_at [] i w = refl
length_set_value_at (e ∷ es) zero w = refl
length_set_value_at (e ∷ es) (suc i) w = ap suc (length_set_value_at es i w)

set_each : {X : Type 0} (f : X → X) (es : List (ℕ × X)) (i : ℕ) (x : X) → slice_get (values_of (each f (take i es) ++ drop i es)) i ≡ Some x
    → set_value_at (each f (take i es) ++ drop i es) i (f x) ≡ each f (take (suc i) es) ++ drop (suc i) es
set_each f [] zero x at = refl
set_each f [] (suc i) x at = refl
set_each f (e ∷ es) zero x at = let same : x ≡ e.1 = cc in λ j. (e.0, f (same j)) ∷ es
set_each f (e ∷ es) (suc i) x at = ap (λ l. (e.0, f e.1) ∷ l) (set_each f es i x at)

-- one more value of a table changes
pub set_more : {X : Type 0} (f : X → X) (es seen : List (ℕ × X)) (i : ℕ) (x : X) → seen ≡ each f (take i es) ++ drop i es → slice_get (values_of seen) i ≡ Some x
    → set_value_at seen i (f x) ≡ each f (take (i + 1) es) ++ drop (i + 1) es
set_more f es seen i x is at =
    ap (λ l. set_value_at l i (f x)) is
    ∙ set_each f es i x (ap (λ l. slice_get (values_of l) i) (sym is) ∙ at)
    ∙ ap (λ n. each f (take n es) ++ drop n es) (sym (add-one i))

there : {X : Type 0} (o : Option ℕ) (es more : List (ℕ × X)) → is_some o ≡ true → option_map_or (λ (i : ℕ). es) o more ≡ es
there None es more h = absurd cc
there (Some i) es more h = refl

absent : {X : Type 0} (o : Option ℕ) (es more : List (ℕ × X)) → is_some o ≡ false → option_map_or (λ (i : ℕ). es) o more ≡ more
absent None es more h = refl
absent (Some i) es more h = absurd cc

-- a key that has a value
pub with_new_there : {X : Type 0} (k : ℕ) (x : X) (es : List (ℕ × X)) → is_some (place_of k es) ≡ true → with_new k x es ≡ es
with_new_there k x es h = there (place_of k es) es (es ++ (k, x) ∷ []) h

-- a key that has none
pub with_new_absent : {X : Type 0} (k : ℕ) (x : X) (es : List (ℕ × X)) → is_some (place_of k es) ≡ false → with_new k x es ≡ es ++ (k, x) ∷ []
with_new_absent k x es h = absent (place_of k es) es (es ++ (k, x) ∷ []) h

module _ {A B : Type 0} (R : A → B → Type 0) where
  -- a key has a place in both tables, or in none
  pub same_place : (xs : List (ℕ × A)) (ys : List (ℕ × B)) (k : ℕ) (b : Bool) → Along R xs ys → is_some (place_of k xs) ≡ b → is_some (place_of k ys) ≡ b
  same_place xs ys k b h e = ap is_some (sym (place_along R xs ys k h)) ∙ e

  pub along_there : (xs : List (ℕ × A)) (ys : List (ℕ × B)) (k : ℕ) (y : B) → Along R xs ys → is_some (place_of k xs) ≡ true → Along R xs (with_new k y ys)
  along_there xs ys k y h e = subst (Along R xs) (sym (with_new_there k y ys (same_place xs ys k true h e))) h

  pub along_new : (xs : List (ℕ × A)) (ys : List (ℕ × B)) (k : ℕ) (x : A) (y : B) → Along R xs ys → R x y → is_some (place_of k xs) ≡ false → Along R (xs ++ (k, x) ∷ []) (with_new k y ys)
  along_new xs ys k x y h r e = subst (Along R (xs ++ (k, x) ∷ [])) (sym (with_new_absent k y ys (same_place xs ys k false h e))) (along_more R xs ys k x y h r)

  -- a key goes
  pub without_along : (xs : List (ℕ × A)) (ys : List (ℕ × B)) (k : ℕ) → Along R xs ys → Along R (without_key k xs) (without_key k ys)
  without_along [] [] k h = h
  without_along [] (y ∷ ys) k h = absurd h
  without_along (x ∷ xs) [] k h = absurd h
  without_along (x ∷ xs) (y ∷ ys) k h =
      subst (λ c. Along R (cond (nat_eq k x.0) xs (x ∷ without_key k xs)) (cond c ys (y ∷ without_key k ys))) (ap (nat_eq k) h.0.0)
      (by (nat_eq k x.0) (without_along xs ys k h.1))
    where
      by : (b : Bool) → Along R (without_key k xs) (without_key k ys) → Along R (cond b xs (x ∷ without_key k xs)) (cond b ys (y ∷ without_key k ys))
      by true rest = h.1
      by false rest = (h.0, rest)

-- a value is written over, and the keys stay
pub keys_set_value_at : {X : Type 0} (es : List (ℕ × X)) (i : ℕ) (w : X) → keys_of (set_value_at es i w) ≡ keys_of es
keys_set_value_at [] i w = refl
keys_set_value_at (e ∷ es) zero w = refl
keys_set_value_at (e ∷ es) (suc i) w = ap (λ ks. e.0 ∷ ks) (keys_set_value_at es i w)

-- all but what was put behind the others
pub all_but_new : {X : Type 0} (es : List X) (x : X) → take (length es) (es ++ x ∷ []) ≡ es
all_but_new [] x = refl
all_but_new (e ∷ es) x = ap (λ l. e ∷ l) (all_but_new es x)
