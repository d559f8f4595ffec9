-- Values under keys, one of which changes.
use Rattle.std.proofs.Common.{◌≡◌, ◌<◌, ◌≤◌, ℕ, zero, suc, Bool, true, false, List, [], ◌∷◌, ◌++◌, Some, length, slice_get, take, refl, sym, ap, ◌∙◌, append_assoc, arith}
use Rattle.std.specs.Prelude.{◌||◌}
use Rattle.std.specs.List.{flat_map, list_any}
use Rattle.std.specs.Map.{keys_of, values_of}
use Rattle.indexmap.specs.IndexMap.{set_value_at}
use Rattle.std.proofs.lemmas.List.{append-nil}
use Rattle.stream_core.specs.Tables.{each, change_place}

-- a value is written over by what it changes to
pub set_change : {X : Type 0} (f : X → X) (es : List (ℕ × X)) (i : ℕ) (x : X) → slice_get (values_of es) i ≡ Some x → set_value_at es i (f x) ≡ change_place f es i
set_change f [] i x at = refl
set_change f (e ∷ es) zero x at = let same : x ≡ e.1 = cc in λ j. (e.0, f (same j)) ∷ es
set_change f (e ∷ es) (suc i) x at = ap (λ l. e ∷ l) (set_change f es i x at)

-- there are as many keys as values
pub length_keys : {X : Type 0} (es : List (ℕ × X)) → length (keys_of es) ≡ length es
length_keys [] = refl
length_keys (e ∷ es) = ap suc (length_keys es)

-- a value is there at each place
pub value_there : {X : Type 0} (es : List (ℕ × X)) (i : ℕ) → i < length es → (x : X) × (slice_get (values_of es) i ≡ Some x)
value_there [] i within = absurd (omega arith)
value_there (e ∷ es) zero within = (e.1, refl)
value_there (e ∷ es) (suc i) within = value_there es i (omega arith)

-- a value that stays as it is
pub change_same : {X : Type 0} (f : X → X) (es : List (ℕ × X)) (i : ℕ) (x : X) → slice_get (values_of es) i ≡ Some x → f x ≡ x → change_place f es i ≡ es
change_same f [] i x at same = refl
change_same f (e ∷ es) zero x at same = let here : x ≡ e.1 = cc in ap (λ y. (e.0, y) ∷ es) (ap f (sym here) ∙ same ∙ here)
change_same f (e ∷ es) (suc i) x at same = ap (λ l. e ∷ l) (change_same f es i x at same)

-- the first so many values change so
abbrev pub upto : {X : Type 0} → (X → X) → ℕ → List (ℕ × X) → List (ℕ × X)
upto f zero es = es
upto f (suc i) [] = []
upto f (suc i) (e ∷ es) = (e.0, f e.1) ∷ upto f i es

pub upto_step : {X : Type 0} (f : X → X) (i : ℕ) (es : List (ℕ × X)) → change_place f (upto f i es) i ≡ upto f (suc i) es
upto_step f zero [] = refl
upto_step f zero (e ∷ es) = refl
upto_step f (suc i) [] = refl
upto_step f (suc i) (e ∷ es) = ap (λ l. (e.0, f e.1) ∷ l) (upto_step f i es)

pub upto_length : {X : Type 0} (f : X → X) (i : ℕ) (es : List (ℕ × X)) → length (upto f i es) ≡ length es
upto_length f zero es = refl
upto_length f (suc i) [] = refl
upto_length f (suc i) (e ∷ es) = ap suc (upto_length f i es)

pub upto_all : {X : Type 0} (f : X → X) (n : ℕ) (es : List (ℕ × X)) → length es ≤ n → upto f n es ≡ each f es
upto_all f zero [] long = refl
upto_all f zero (e ∷ es) long = absurd (omega arith)
upto_all f (suc n) [] long = refl
upto_all f (suc n) (e ∷ es) long = ap (λ l. (e.0, f e.1) ∷ l) (upto_all f n es (omega arith))

-- what one value more gives
pub items_step : {X Y : Type 0} (h : X → List Y) (i : ℕ) (es : List (ℕ × X)) (x : X) → slice_get (values_of es) i ≡ Some x
    → flat_map (λ e. h e.1) (take (suc i) es) ≡ flat_map (λ e. h e.1) (take i es) ++ h x
items_step h i [] x at = absurd cc
items_step h zero (e ∷ es) x at = let here : e.1 ≡ x = cc in append-nil (h e.1) ∙ ap h here
items_step h (suc i) (e ∷ es) x at = ap (λ l. h e.1 ++ l) (items_step h i es x at) ∙ sym (append_assoc (h e.1) (flat_map (λ e. h e.1) (take i es)) (h x))

-- and whether it holds of one of them
or_false : (a : Bool) → (a || false) ≡ a
or_false true = refl
or_false false = refl

or_assoc : (a b c : Bool) → (a || (b || c)) ≡ ((a || b) || c)
or_assoc true b c = refl
or_assoc false b c = refl

pub any_step : {X : Type 0} (q : X → Bool) (i : ℕ) (es : List (ℕ × X)) (x : X) → slice_get (values_of es) i ≡ Some x
    → list_any (λ e. q e.1) (take (suc i) es) ≡ (list_any (λ e. q e.1) (take i es) || q x)
any_step q i [] x at = absurd cc
any_step q zero (e ∷ es) x at = let here : e.1 ≡ x = cc in or_false (q e.1) ∙ ap q here
any_step q (suc i) (e ∷ es) x at = ap (λ b. q e.1 || b) (any_step q i es x at) ∙ or_assoc (q e.1) (list_any (λ e. q e.1) (take i es)) (q x)
