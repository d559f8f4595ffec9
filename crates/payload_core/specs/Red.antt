-- Redundant audio data (RFC 2198).
use Rattle.std.specs.Prelude.{ℕ, zero, suc, ◌+◌, ◌*◌, ◌/◌, ◌%◌, Bool, true, false, nat_lt, ◌==◌, if◌then◌else◌, Option, Some, None, List, [], ◌∷◌, length, take, drop, slice_index, map, filter}
use Rattle.std.specs.Option.{option_map, option_and_then}
use Rattle.rtp_base.specs.Wire.{word_at}
use Rattle.payload_core.specs.declared.red.RedBlock.{RedBlock}

-- a block: its type, how long before the packet's time its frame began, and the frame
pub record Block : Type 0 where
  pub pt : ℕ
  pub offset : ℕ
  pub payload : List ℕ
  pub primary : Bool

-- a block of the code
abbrev pub block_of : RedBlock → Block
block_of b = record { pt = b.pt; offset = b.timestamp_offset; payload = b.payload.now; primary = b.is_primary }

abbrev pub blocks_of : List RedBlock → List Block
blocks_of bs = map block_of bs

-- how many redundant blocks there are: each has a header of four bytes whose first bit is set, and behind
-- them stands the primary's, of one byte whose first bit is clear. Nothing where a header is cut
abbrev pub redundant_count : List ℕ → Option ℕ
redundant_count (b ∷ c ∷ d ∷ e ∷ rest) = if nat_lt b 128 then Some 0 else option_map suc (redundant_count rest)
redundant_count (b ∷ few) = if nat_lt b 128 then Some 0 else None
redundant_count [] = None

-- the header of a redundant block: a bit, a type of 7 bits, an offset of 14 and a length of 10
abbrev pub header_of : List ℕ → ℕ
header_of bytes = word_at bytes 0

abbrev pub type_in : List ℕ → ℕ
type_in bytes = header_of bytes / 16777216 % 128

abbrev pub offset_in : List ℕ → ℕ
offset_in bytes = header_of bytes / 1024 % 16384

abbrev pub length_in : List ℕ → ℕ
length_in bytes = header_of bytes % 1024

-- the block of a header, at the front of these payloads
abbrev pub redundant_block : List ℕ → List ℕ → Block
redundant_block heads payloads = record {
  pt = type_in heads;
  offset = offset_in heads;
  payload = take (length_in heads) payloads;
  primary = false;
}

-- the primary block: a type of 7 bits, and all that is left
abbrev pub primary_block : List ℕ → List ℕ → Block
primary_block heads payload = record { pt = slice_index heads 0 % 128; offset = 0; payload = payload; primary = true }

-- the block of a header, and the payloads behind its own; nothing where its length passes the end
unfoldable pub first_block : List ℕ → List ℕ → Option (Block × List ℕ)
first_block heads payloads =
    if nat_lt (length payloads) (length_in heads) then None
    else Some (redundant_block heads payloads, drop (length_in heads) payloads)

-- so many redundant blocks, and the primary one: the payloads stand behind the headers, in their order
abbrev pub blocks_from : ℕ → List ℕ → List ℕ → Option (List Block)
blocks_from zero heads payloads = Some (primary_block heads payloads ∷ [])
blocks_from (suc n) heads payloads =
    option_and_then (λ x. option_map (λ later. x.0 ∷ later) (blocks_from n (drop 4 heads) x.1)) (first_block heads payloads)

-- the blocks of a payload, the primary one last
unfoldable pub red_of : List ℕ → Option (List Block)
red_of bytes = option_and_then (λ n. blocks_from n bytes (drop (4 * n + 1) bytes)) (redundant_count bytes)

-- the blocks of a type
abbrev pub of_type : ℕ → List Block → List Block
of_type pt blocks = filter (λ b. b.pt == pt) blocks
