-- Which payload types both ends know.
use Rattle.std.specs.Prelude.{ℕ, Bool, false, ◌==◌, ◌||◌, List, find, Option}
use Rattle.std.specs.Option.{option_map_or}
use Rattle.mapping_core.specs.declared.claim.TypeClaim.{TypeClaim}

-- there is a number, and it is this one
abbrev pub is_number : Option ℕ → ℕ → Bool
is_number number n = option_map_or (λ m. m == n) number false

-- a row knows a type: as its own, as that of its repairs or as that of its RED
abbrev pub claims : ℕ → TypeClaim → Bool
claims pt c = c.pt == pt || is_number c.rtx pt || is_number c.red pt

-- the first row that knows a type
abbrev pub claim_of : List TypeClaim → ℕ → Option TypeClaim
claim_of types pt = find (claims pt) types

-- packets of a type carry media, and no repairs
abbrev pub carries_media : ℕ → TypeClaim → Bool
carries_media pt c = c.pt == pt || is_number c.red pt
