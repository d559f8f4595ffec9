-- Of which incoming stream a datagram is, by its SSRC and its header.
use Rattle.std.specs.Prelude.{◌==◌, ◌||◌, not, ℕ, Bool, if◌then◌else◌, List, [], Option, Some, None}
use Rattle.std.specs.List.{filter}
use Rattle.mapping_core.specs.Streams.{with_stream, with_main as with_main_known, with_repairs as with_repairs_known, without}
use Rattle.mapping_core.specs.declared.mapping.MainChange.{MainChange}
use Rattle.mapping_core.specs.declared.mapping.RepairsChange.{RepairsChange}
use Rattle.mapping_core.specs.declared.stream.IncomingStream.{IncomingStream}
use Rattle.stream_core.specs.Tables.{with_new, without_value, each}

-- under each SSRC of repairs that comes, the SSRC of the stream that is repaired; and what tells of each stream whether an SSRC
-- that no table has is its own, in order of declaration
pub record KnownRecord : Type 0 where
  pub originals : List (ℕ × ℕ)
  pub streams : List IncomingStream

abbrev pub none_known : KnownRecord
none_known = record { originals = []; streams = [] }

-- the SSRC of a stream under that of its repairs, if it has one; where another stream has that one it stays with it
abbrev pub put_original : ℕ → Option ℕ → List (ℕ × ℕ) → List (ℕ × ℕ)
put_original ssrc None os = os
put_original ssrc (Some rtx) os = with_new rtx ssrc os

-- one more stream is known
abbrev pub with_known : IncomingStream → KnownRecord → KnownRecord
with_known s k = record { originals = put_original s.ssrc s.rtx k.originals; streams = with_stream s k.streams }

-- the stream of an SSRC is known no more
abbrev pub without_known : ℕ → KnownRecord → KnownRecord
without_known ssrc k = record { originals = without_value ssrc k.originals; streams = without ssrc k.streams }

-- the repairs of the stream of an SSRC come under another one
abbrev pub with_original_of : ℕ → ℕ → KnownRecord → KnownRecord
with_original_of rtx main k = record k { originals = with_new rtx main k.originals }

-- a stream that had one SSRC has another one
abbrev pub renamed_to : MainChange → ℕ → ℕ
renamed_to c ssrc = if ssrc == c.from then c.to else ssrc

abbrev pub with_main : MainChange → KnownRecord → KnownRecord
with_main c k = record { originals = each (renamed_to c) k.originals; streams = with_main_known c k.streams }

-- the SSRC of a stream under one SSRC of repairs, and under no other one
abbrev pub is_kept : RepairsChange → ℕ × ℕ → Bool
is_kept c e = e.0 == c.rtx || not (e.1 == c.main)

abbrev pub with_only : RepairsChange → List (ℕ × ℕ) → List (ℕ × ℕ)
with_only c os = filter (is_kept c) (with_new c.rtx c.main os)

abbrev pub with_repairs : RepairsChange → KnownRecord → KnownRecord
with_repairs c k = record { originals = with_only c k.originals; streams = with_repairs_known c k.streams }
