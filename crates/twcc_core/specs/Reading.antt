-- Rows that are read behind others.
use Rattle.std.specs.Prelude.{◌≡◌, ℕ, List, ◌++◌, Option}
use Rattle.std.specs.Option.{option_map, option_and_then}
use Rattle.twcc_core.specs.declared.status.PacketStatus.{PacketStatus}
use Rattle.twcc_core.specs.Statuses.{statuses_of}

-- what stands behind rows
abbrev pub with_front : List PacketStatus → Option (List PacketStatus) → Option (List PacketStatus)
with_front front o = option_map (λ later. front ++ later) o

-- symbols are read behind some rows: whatever symbols follow, all together say the rows that stand now and
-- what those others say of the bytes that are left, or nothing where the bytes ended before
pub record Says (front : List PacketStatus) (symbols bytes : List ℕ) (rows : List PacketStatus) (after : Option (List ℕ)) : Type 0 where
  pub so_far : (later : List ℕ) → with_front front (statuses_of (symbols ++ later) bytes) ≡ option_and_then (λ rest. with_front rows (statuses_of later rest)) after
