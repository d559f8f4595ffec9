-- Rows of bytes, and what a text leaves as it was.
use Rattle.std.specs.Prelude.{◌≡◌, ℕ, zero, suc, List, [], ◌∷◌, drop, Option, Some, None, Bool, true, false}

-- n rows of so many bytes each, one after another
abbrev pub rows_of : {T : Type 0} → (List ℕ → T) → ℕ → ℕ → List ℕ → List T
rows_of row size zero bytes = []
rows_of row size (suc n) bytes = row bytes ∷ rows_of row size n (drop size bytes)

-- what stands behind the text stays, and all where there is no room for it
abbrev pub LeavesRest : List ℕ → List ℕ → Option ℕ → Type 0
LeavesRest old new None = new ≡ old
LeavesRest old new (Some end) = drop end new ≡ drop end old

-- the value, where there is one
abbrev pub some_if : {T : Type 0} → Bool → T → Option T
some_if true x = Some x
some_if false x = None
