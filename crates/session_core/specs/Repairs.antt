-- Which datagrams that come are repairs (RFC 4588), of which stream, and what they restore.
use Rattle.std.specs.Prelude.{◌==◌, ◌||◌, ℕ, ◌+◌, ◌*◌, ◌%◌, Bool, is_some, unwrap_or, if◌then◌else◌, List, [], ◌∷◌, option_and_then, Option, Some, None}
use Rattle.rtp_wire.specs.declared.header.RtpHeader.{RtpHeader}
use Rattle.stream_core.specs.declared.payload_types.TypeRow.{TypeRow}
use Rattle.stream_core.specs.Repairing.{primary_type_of}
use Rattle.stream_core.specs.RxRecord.{RxRecord}
use Rattle.stream_core.specs.RxRepairs.{own_number, fresh_repair}
use Rattle.stream_core.specs.Seen.{seen_of, is_unseen}
use Rattle.stream_core.specs.Tables.{value_under, place_of}

-- a type that both ends know: of packets, or of repairs
abbrev pub is_known : List (ℕ × TypeRow) → ℕ → Bool
is_known types pt = is_some (place_of pt types) || is_some (primary_type_of types pt)

-- an SSRC, where a stream has it
abbrev pub standing : List (ℕ × RxRecord) → Option ℕ → Option ℕ
standing rx o = option_and_then (λ ssrc. if is_some (place_of ssrc rx) then Some ssrc else None) o

-- the SSRC of the stream whose repairs come under the SSRC of a datagram, of a type that both ends know
abbrev pub original_under : List (ℕ × TypeRow) → List (ℕ × RxRecord) → List (ℕ × ℕ) → RtpHeader → Option ℕ
original_under types rx originals h = if is_known types h.payload_type then standing rx (value_under h.ssrc originals) else None

-- the SSRC of the stream that a datagram repairs, where it is a repair: one that comes under the SSRC of a stream's repairs, of
-- a type that both ends know, or under the stream's own, of a type of repairs
abbrev pub repaired_by : List (ℕ × TypeRow) → List (ℕ × RxRecord) → List (ℕ × ℕ) → RtpHeader → Option ℕ
repaired_by types rx originals h =
    if h.ssrc == 0 then None
    else (if is_some (place_of h.ssrc rx) then (if is_some (primary_type_of types h.payload_type) then Some h.ssrc else None)
    else original_under types rx originals h)

-- the own number of a repair of a stream, where no datagram under its SSRC opened under that number
abbrev pub padded_accepted : List (ℕ × List ℕ) → RtpHeader → RxRecord → Option ℕ
padded_accepted seen h x =
    if is_unseen h.ssrc (own_number (seen_of h.ssrc seen) x h.sequence_number) seen then Some (own_number (seen_of h.ssrc seen) x h.sequence_number) else None

-- the own number under which a repair of a stream may open: where it is fresh among the stream's repairs; with padding, where
-- no datagram under its SSRC opened under that number
abbrev pub repair_accepted : List (ℕ × List ℕ) → RtpHeader → RxRecord → Option ℕ
repair_accepted seen h x = if h.has_padding then padded_accepted seen h x else fresh_repair (seen_of h.ssrc seen) x h.sequence_number

-- the header of the packet that is repaired
abbrev pub restored_header : List (ℕ × TypeRow) → ℕ → ℕ → RtpHeader → RtpHeader
restored_header types original n h =
    record h { ssrc = original; sequence_number = n % 65536; payload_type = unwrap_or (primary_type_of types h.payload_type) h.payload_type }
