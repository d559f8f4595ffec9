-- Values under keys, in order.
use Rattle.std.specs.Prelude.{◌≡◌, ◌==◌, not, ℕ, zero, suc, nat_eq, position, Option, option_and_then, slice_get, List, [], ◌∷◌, ◌++◌, map}
use Rattle.std.specs.List.{AllZip, filter}
use Rattle.std.specs.Map.{keys_of, values_of, remove_entry}
use Rattle.std.specs.Option.{option_map_or}

-- where a key stands first
abbrev pub place_of : {X : Type 0} → ℕ → List (ℕ × X) → Option ℕ
place_of k es = position (nat_eq k) (keys_of es)

-- the value under a key, if it has one
abbrev pub value_under : {X : Type 0} → ℕ → List (ℕ × X) → Option X
value_under k es = option_and_then (slice_get (values_of es)) (place_of k es)

-- the table without the first value under a key
abbrev pub without_key : {X : Type 0} → ℕ → List (ℕ × X) → List (ℕ × X)
without_key k es = remove_entry (nat_eq k) es

-- the table without the entries of a value
abbrev pub without_value : ℕ → List (ℕ × ℕ) → List (ℕ × ℕ)
without_value v es = filter (λ e. not (e.1 == v)) es

-- the table with a value behind the others, or as it is where the key has one
abbrev pub with_new : {X : Type 0} → ℕ → X → List (ℕ × X) → List (ℕ × X)
with_new k x es = option_map_or (λ i. es) (place_of k es) (es ++ (k, x) ∷ [])

-- each value changes so
abbrev pub each : {X : Type 0} → (X → X) → List (ℕ × X) → List (ℕ × X)
each f es = map (λ e. (e.0, f e.1)) es

-- the value at a place changes so, and nothing else
abbrev pub change_place : {X : Type 0} → (X → X) → List (ℕ × X) → ℕ → List (ℕ × X)
change_place f [] i = []
change_place f (e ∷ es) zero = (e.0, f e.1) ∷ es
change_place f (e ∷ es) (suc i) = e ∷ change_place f es i

-- the first value under a key changes so, and nothing else
abbrev pub change_at : {X : Type 0} → ℕ → (X → X) → List (ℕ × X) → List (ℕ × X)
change_at k f es = option_map_or (change_place f es) (place_of k es) es

-- the table with a value under a key: in the place of the one that the key has, or behind the others
abbrev pub with_value : {X : Type 0} → ℕ → X → List (ℕ × X) → List (ℕ × X)
with_value k x es = option_map_or (change_place (λ old. x) es) (place_of k es) (es ++ (k, x) ∷ [])

-- the key at a place becomes another one
abbrev pub renamed : {X : Type 0} → ℕ → List (ℕ × X) → ℕ → List (ℕ × X)
renamed k [] i = []
renamed k (e ∷ es) zero = (k, e.1) ∷ es
renamed k (e ∷ es) (suc i) = e ∷ renamed k es i

-- the first value under a key stands under another one, in its place
abbrev pub rekeyed : {X : Type 0} → ℕ → ℕ → List (ℕ × X) → List (ℕ × X)
rekeyed from to es = option_map_or (renamed to es) (place_of from es) es

-- the keys of two tables are the same, and R holds of the values under each
abbrev pub Under : {A B : Type 0} → (A → B → Type 0) → ℕ × A → ℕ × B → Type 0
Under R a b = (a.0 ≡ b.0) × R a.1 b.1

abbrev pub Along : {A B : Type 0} → (A → B → Type 0) → List (ℕ × A) → List (ℕ × B) → Type 0
Along R xs ys = AllZip (Under R) xs ys
