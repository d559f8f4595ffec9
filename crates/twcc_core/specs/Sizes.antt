-- How the size of rows is counted.
use Rattle.std.specs.Prelude.{◌≡◌, ℕ, ◌+◌, ◌*◌, ◌<◌, ◌≤◌, ◌==◌, ◌&&◌, ◌||◌, Bool, true, false, List, [], ◌∷◌, ◌++◌, length, nat_lt, if◌then◌else◌}
use Rattle.std.specs.List.{flat_map, prefix_len}
use Rattle.twcc_core.specs.declared.status.PacketStatus.{PacketStatus}
use Rattle.twcc_core.specs.declared.size.Size.{Size}
use Rattle.twcc_core.specs.declared.chunk.TheConstants.{MAX_RUN, VECTOR_LEN}
use Rattle.twcc_core.specs.Statuses.{symbol_of, delta_text}
use Rattle.twcc_core.specs.Chunks.{symbol_at, chunks_of}
use Rattle.twcc_core.specs.Feedback.{fill_of}

-- whether the last chunk tells another row
abbrev pub takes_on : Size → ℕ → Bool
takes_on s symbol = nat_lt 0 s.told && (nat_lt s.told VECTOR_LEN || ((s.is_run && (symbol == s.symbol)) && nat_lt s.told MAX_RUN))

abbrev pub after_row : Size → PacketStatus → Size
after_row s row =
    if takes_on s (symbol_of row)
    then record { chunks = s.chunks; told = s.told + 1; symbol = s.symbol; is_run = s.is_run && (symbol_of row == s.symbol); deltas = s.deltas + length (delta_text row) }
    else record { chunks = s.chunks + 1; told = 1; symbol = symbol_of row; is_run = true; deltas = s.deltas + length (delta_text row) }

abbrev pub bytes_of : Size → ℕ
bytes_of s = (20 + 2 * s.chunks + s.deltas) + fill_of (20 + 2 * s.chunks + s.deltas)

-- the rows that are not told by the last chunk, and those that are: whatever comes, the former are told
-- by the chunks before
pub record IsParted (s : Size) (rows : List PacketStatus) : Type 0 where
  pub front : List PacketStatus
  pub last : List PacketStatus
  pub split : rows ≡ front ++ last
  pub told : length last ≡ s.told
  pub some : 0 < s.told
  pub most : s.told ≤ MAX_RUN
  pub symbol : s.symbol ≡ symbol_at last 0
  pub run : s.is_run ≡ true → prefix_len (λ row. symbol_of row == s.symbol) last ≡ length last
  pub mixed : s.is_run ≡ false → (prefix_len (λ row. symbol_of row == s.symbol) last < length last) × (length last ≤ VECTOR_LEN)
  pub chunks : (later : List PacketStatus) → length (chunks_of (rows ++ later)) + 1 ≡ s.chunks + length (chunks_of (last ++ later))

abbrev pub IsCounted : Size → List PacketStatus → Type 0
IsCounted s [] = (s.chunks ≡ 0) × (s.told ≡ 0) × (s.deltas ≡ 0)
IsCounted s (row ∷ rows) = IsParted s (row ∷ rows) × (s.deltas ≡ length (flat_map delta_text (row ∷ rows)))
