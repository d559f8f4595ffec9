-- The chunks that tell symbols (draft-holmer-rmcat-transport-wide-cc-extensions-01 sections 3.1.3
-- and 3.1.4).
use Rattle.std.specs.Prelude.{ℕ, zero, suc, ◌+◌, ◌-◌, ◌*◌, ◌/◌, ◌%◌, ◌==◌, min, List, [], ◌∷◌, ◌++◌, length, take, drop, replicate, slice_get, nat_lt, nat_le, Option, Some, None, if◌then◌else◌}
use Rattle.std.specs.List.{take_while}
use Rattle.std.specs.Option.{option_map, option_map_or}
use Rattle.rtp_base.specs.Wire.{half_at}
use Rattle.twcc_core.specs.Statuses.{symbol_of}
use Rattle.twcc_core.specs.declared.status.PacketStatus.{PacketStatus}
use Rattle.twcc_core.specs.declared.chunk.TheConstants.{MAX_RUN, VECTOR_LEN}

-- a vector of one bit a symbol, and one of two bits a symbol, the first symbol in the highest bits
abbrev pub one_bit_symbols : ℕ → List ℕ
one_bit_symbols chunk =
    (chunk / 8192 % 2) ∷ (chunk / 4096 % 2) ∷ (chunk / 2048 % 2) ∷ (chunk / 1024 % 2) ∷ (chunk / 512 % 2) ∷ (chunk / 256 % 2) ∷ (chunk / 128 % 2)
    ∷ (chunk / 64 % 2) ∷ (chunk / 32 % 2) ∷ (chunk / 16 % 2) ∷ (chunk / 8 % 2) ∷ (chunk / 4 % 2) ∷ (chunk / 2 % 2) ∷ (chunk % 2) ∷ []

abbrev pub two_bit_symbols : ℕ → List ℕ
two_bit_symbols chunk =
    (chunk / 4096 % 4) ∷ (chunk / 1024 % 4) ∷ (chunk / 256 % 4) ∷ (chunk / 64 % 4) ∷ (chunk / 16 % 4) ∷ (chunk / 4 % 4) ∷ (chunk % 4) ∷ []

-- the symbols that a chunk tells: a run has bit 0, a symbol and its length of 13 bits, a vector of one
-- bit a symbol bits 1 and 0, one of two bits a symbol bits 1 and 1
unfoldable pub chunk_symbols : ℕ → List ℕ
chunk_symbols chunk =
    if nat_lt chunk 32768 then replicate (chunk % 8192) (chunk / 8192)
    else (if nat_lt chunk 49152 then one_bit_symbols chunk else two_bit_symbols chunk)

abbrev pub with_symbols : List ℕ → List ℕ × List ℕ → List ℕ × List ℕ
with_symbols front x = (front ++ x.0, x.1)

-- so many symbols, told by at most n chunks, and what follows those chunks. Nothing where the bytes
-- end before
abbrev pub symbols_within : ℕ → ℕ → List ℕ → Option (List ℕ × List ℕ)
symbols_within zero zero bytes = Some ([], bytes)
symbols_within zero (suc count) bytes = None
symbols_within (suc n) zero bytes = Some ([], bytes)
symbols_within (suc n) (suc count) bytes =
    option_map (with_symbols (take (suc count) (chunk_symbols (half_at bytes 0)))) (symbols_within n (suc count - length (chunk_symbols (half_at bytes 0))) (drop 2 bytes))

unfoldable pub symbols_of : ℕ → List ℕ → Option (List ℕ × List ℕ)
symbols_of count bytes = symbols_within (length bytes / 2) count bytes

-- the symbol at a place, 0 past the end
abbrev pub symbol_at : List PacketStatus → ℕ → ℕ
symbol_at rows i = option_map_or symbol_of (slice_get rows i) 0

-- how many at the front have the symbol of the first, of as many as a run can tell
abbrev pub run_of : List PacketStatus → ℕ
run_of rows = length (take_while (λ row. symbol_of row == symbol_at rows 0) (take MAX_RUN rows))

-- a vector of the first seven
abbrev pub vector_of : List PacketStatus → ℕ
vector_of rows =
    49152 + symbol_at rows 0 * 4096 + symbol_at rows 1 * 1024 + symbol_at rows 2 * 256 + symbol_at rows 3 * 64 + symbol_at rows 4 * 16 + symbol_at rows 5 * 4 + symbol_at rows 6

-- the first chunk that is written: a run where it tells seven at least, else a vector; and how many it
-- tells
unfoldable pub chunk_of : List PacketStatus → ℕ
chunk_of rows = if nat_le VECTOR_LEN (run_of rows) then symbol_at rows 0 * 8192 + run_of rows else vector_of rows

unfoldable pub told_by : List PacketStatus → ℕ
told_by rows = if nat_le VECTOR_LEN (run_of rows) then run_of rows else min VECTOR_LEN (length rows)

-- the first n chunks that are written
abbrev pub chunks_within : ℕ → List PacketStatus → List ℕ
chunks_within zero rows = []
chunks_within (suc n) [] = []
chunks_within (suc n) (row ∷ rows) = chunk_of (row ∷ rows) ∷ chunks_within n (drop (told_by (row ∷ rows)) (row ∷ rows))

-- all chunks; each tells one at least
unfoldable pub chunks_of : List PacketStatus → List ℕ
chunks_of rows = chunks_within (length rows) rows
