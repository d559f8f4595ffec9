-- Patterns of the bits of a byte, written from the highest bit down.
use Rattle.std.specs.Prelude.{◌≡◌, ℕ, ◌-◌, ◌/◌, ◌%◌, ◌^◌, ◌<◌, ◌⊎◌, List, length, slice_index}

-- `0` or `1`, which the bit has to be, or `x`, where it may be either
abbrev pub IsSymbol : ℕ → Type 0
IsSymbol symbol = (symbol ≡ 48) ⊎ ((symbol ≡ 49) ⊎ (symbol ≡ 120))

abbrev pub IsPattern : List ℕ → Type 0
IsPattern symbols = (k : ℕ) → k < length symbols → IsSymbol (slice_index symbols k)

-- a bit of a byte, counted from the highest
abbrev pub bit_of : ℕ → ℕ → ℕ
bit_of byte k = byte / 2 ^ (7 - k) % 2

-- what a pattern asks of one bit
pub record FitsBit (symbol bit : ℕ) : Type 0 where
  pub zero : symbol ≡ 48 → bit ≡ 0
  pub one : symbol ≡ 49 → bit ≡ 1

-- each bit is as the pattern asks
abbrev pub FitsPattern : List ℕ → ℕ → Type 0
FitsPattern symbols byte = (k : ℕ) → k < length symbols → FitsBit (slice_index symbols k) (bit_of byte k)
