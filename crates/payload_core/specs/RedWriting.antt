-- Redundant audio data in bytes (RFC 2198 section 3).
use Rattle.std.specs.Prelude.{◌≡◌, ℕ, ◌+◌, ◌*◌, ◌%◌, ◌<◌, true, false, if◌then◌else◌, Some, List, [], ◌∷◌, ◌++◌, length}
use Rattle.std.specs.List.{flat_map}
use Rattle.std.specs.Int.{w32, to_be_bytes}
use Rattle.payload_core.specs.Red.{Block, red_of}
use Rattle.payload_core.specs.declared.red.TheConstants.{RED_LEN_LIMIT, RED_OFFSET_LIMIT}

-- the header of a redundant block: a bit that is set, its type, its offset and its length
abbrev pub header_word : Block → ℕ
header_word b = 2147483648 + b.pt % 128 * 16777216 + b.offset % 16384 * 1024 + length b.payload % 1024

-- the header of a block; of the primary one a byte with a clear bit and its type
abbrev pub header_bytes : Block → List ℕ
header_bytes b = if b.primary then b.pt % 128 ∷ [] else to_be_bytes w32 (header_word b)

-- all headers, and behind them all payloads, in one order
unfoldable pub red_bytes : List Block → List ℕ
red_bytes blocks = flat_map header_bytes blocks ++ flat_map (λ b. b.payload) blocks

-- a redundant block whose type, offset and length fit their fields
pub record IsRedundant (b : Block) : Type 0 where
  pub redundant : b.primary ≡ false
  pub pt : b.pt < 128
  pub offset : b.offset < RED_OFFSET_LIMIT
  pub length : length b.payload < RED_LEN_LIMIT

-- a primary block whose type fits its field
pub record IsPrimary (b : Block) : Type 0 where
  pub primary : b.primary ≡ true
  pub pt : b.pt < 128
  pub offset : b.offset ≡ 0

-- redundant blocks, and the primary one last
abbrev pub IsRed : List Block → Type 0
IsRed [] = ⊥
IsRed (b ∷ []) = IsPrimary b
IsRed (b ∷ c ∷ bs) = IsRedundant b × IsRed (c ∷ bs)

-- what is written is read again
abbrev pub RedReadsBack : Type 0
RedReadsBack = (blocks : List Block) → IsRed blocks → red_of (red_bytes blocks) ≡ Some blocks
