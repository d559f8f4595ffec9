-- Fields in bytes, the high byte first (RFC 3550 section 4).
use Rattle.std.specs.Prelude.{◌≡◌, ℕ, ◌+◌, ◌*◌, ◌/◌, ◌%◌, ◌<◌, ◌≤◌, List, [], ◌∷◌, ◌++◌, length, take, drop, slice_index, Option, Some, None}
use Rattle.std.specs.Int.{w16, w32, w64, from_be_bytes, to_be_bytes}
use Rattle.std.specs.List.{flat_map}

-- the number in the two, three, four or eight bytes at a place
abbrev pub half_at : List ℕ → ℕ → ℕ
half_at bytes at = from_be_bytes w16 (drop at bytes)

abbrev pub triple_at : List ℕ → ℕ → ℕ
triple_at bytes at = slice_index (drop at bytes) 0 * 65536 + slice_index (drop at bytes) 1 * 256 + slice_index (drop at bytes) 2

abbrev pub word_at : List ℕ → ℕ → ℕ
word_at bytes at = from_be_bytes w32 (drop at bytes)

abbrev pub double_at : List ℕ → ℕ → ℕ
double_at bytes at = from_be_bytes w64 (drop at bytes)

-- the three bytes of a number's low 24 bits
abbrev pub triple_bytes : ℕ → List ℕ
triple_bytes n = n / 65536 % 256 ∷ n / 256 % 256 ∷ n % 256 ∷ []

-- halves and words, one after another
abbrev pub halves : List ℕ → List ℕ
halves ns = flat_map (to_be_bytes w16) ns

abbrev pub words : List ℕ → List ℕ
words ns = flat_map (to_be_bytes w32) ns

-- the text was put at a place, and ends at end; or there is no room for it
abbrev pub Puts : List ℕ → ℕ → List ℕ → List ℕ → Option ℕ → Type 0
Puts old at text new None = length old < at + length text
Puts old at text new (Some end) = (end ≡ at + length text) × (take end new ≡ take at old ++ text) × (end ≤ length new)

-- what stands behind the text stays
abbrev pub LeavesBehind : List ℕ → List ℕ → Option ℕ → Type 0
LeavesBehind old new None = Unit {0}
LeavesBehind old new (Some end) = drop end new ≡ drop end old
