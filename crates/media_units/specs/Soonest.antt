-- The earlier of two moments that may be there, each with what comes with it.
use Rattle.std.specs.Prelude.{◌≡◌, ℕ, Option, Some, None, min, nat_lt, if◌then◌else◌}

-- the pair of the earlier moment; on a tie the second pair; with no moment, none and a default
abbrev pub IsSoonest : {T : Type 0} → (T → Type 0) → Option ℕ × T → Option ℕ × T → Option ℕ × T → Type 0
IsSoonest is_default (Some one, x) (Some other, y) pair =
    pair ≡ (if nat_lt one other then (Some one, x) else (Some other, y))
IsSoonest is_default (Some one, x) (None, y) pair = pair ≡ (Some one, x)
IsSoonest is_default (None, x) (Some other, y) pair = pair ≡ (Some other, y)
IsSoonest is_default (None, x) (None, y) pair = (pair.0 ≡ None) × is_default pair.1

-- the earlier of two moments that may be there
abbrev pub earlier : Option ℕ → Option ℕ → Option ℕ
earlier None o = o
earlier (Some t) None = Some t
earlier (Some t) (Some u) = Some (min t u)
