-- The entries of a transcript as what happened on its sides, and a setup's streams and types.
use Rattle.std.specs.Prelude.{ℕ, Bool, false, ◌==◌, is_some, unwrap_or, if◌then◌else◌, List, [], map, drop, Option, Some, None, find}
use Rattle.std.specs.List.{flat_map, filter_map, list_any}
use Rattle.std.specs.Option.{option_map, option_map_or, option_and_then}
use Rattle.rtp_base.specs.declared.kind.Kind.{Kind}
use Rattle.rtp_base.specs.declared.kind.Kind.TheVariants.{Rtp, Rtcp}
use Rattle.rtp_wire.specs.declared.extension.ExtensionMap.{ExtensionMap}
use Rattle.rtp_wire.specs.declared.header.RtpHeader.{RtpHeader}
use Rattle.rtp_wire.specs.Header.{header_of, csrc_of}
pub use Rattle.rtcp_wire.specs.Streams.{feedback_in}
use Rattle.media_model.specs.declared.entry.Side.{Side}
use Rattle.media_model.specs.declared.entry.Sealed.{Sealed as SealedEntry}
use Rattle.media_model.specs.declared.entry.Opened.{Opened as OpenedEntry}
use Rattle.media_model.specs.declared.entry.Entry.{Entry}
use Rattle.media_model.specs.declared.entry.Entry.TheVariants.{Wrote, Ticked, Called, Got, Sealed, Opened, Yielded}
use Rattle.media_model.specs.declared.setup.Cache.{Cache}
use Rattle.media_model.specs.declared.setup.Media.{Media}
use Rattle.media_model.specs.declared.setup.PayloadType.{PayloadType}
use Rattle.media_model.specs.declared.setup.Setup.{Setup}
use Rattle.media_model.specs.declared.setup.Stream.{Stream}
use Rattle.media_model.specs.Setup.{claimed_of, start_of, cache_of, extensions_of}
use Rattle.media_model.specs.Sides.{same_side}
use Rattle.run_model.specs.Events.{Plain, Event, wrote, ticked, called, got, sealed, sealed_items, opened, opened_items, yielded, Types, Outgoing}
use Rattle.run_model.specs.Runs.{Happening}

-- a plain RTP datagram as its header reads, with what stands behind the header
abbrev pub plain_of : RtpHeader → List ℕ → Plain
plain_of h bytes = record {
  pt = h.payload_type;
  padded = h.has_padding;
  marker = h.marker;
  time = h.timestamp;
  csrc = csrc_of h;
  payload = drop h.header_len bytes;
}

abbrev pub no_plain : Plain
no_plain = record { pt = 0; padded = false; marker = false; time = 0; csrc = []; payload = [] }

abbrev pub plain_in : ExtensionMap → List ℕ → Plain
plain_in exts bytes = unwrap_or (option_map (λ h. plain_of h bytes) (header_of exts bytes)) no_plain

-- a plain RTP datagram as it is read: its SSRC, the low 16 bits of its number, and the rest, where it has a header
abbrev pub read_of : RtpHeader → List ℕ → ℕ × ℕ × Plain
read_of h bytes = (h.ssrc, h.sequence_number, plain_of h bytes)

abbrev pub reading : ExtensionMap → List ℕ → Option (ℕ × ℕ × Plain)
reading exts bytes = option_map (λ h. read_of h bytes) (header_of exts bytes)

abbrev pub len_in : ExtensionMap → List ℕ → ℕ
len_in exts bytes = unwrap_or (option_map (λ (h : RtpHeader). h.header_len) (header_of exts bytes)) 0

-- a datagram that was sealed, and one that was opened, as it is read
abbrev pub sealed_event : ExtensionMap → Kind → SealedEntry → Event
sealed_event exts Rtp s = sealed s.ssrc s.index (plain_in exts s.plain) s.bytes
sealed_event exts Rtcp s = sealed_items s.index (feedback_in s.plain)

abbrev pub opened_event : ExtensionMap → Kind → OpenedEntry → Event
opened_event exts Rtp o = opened o.ssrc o.index (plain_in exts o.plain)
opened_event exts Rtcp o = opened_items o.index (feedback_in o.plain)

-- an entry as what happened on its side
abbrev pub happening_of : ExtensionMap → Entry → Happening
happening_of exts (Wrote side time write) = (side, wrote time write)
happening_of exts (Ticked side time) = (side, ticked time)
happening_of exts (Called side time call) = (side, called time)
happening_of exts (Got g) = (g.side, got g.time g.kind g.bytes)
happening_of exts (Sealed s) = (s.side, sealed_event exts s.kind s)
happening_of exts (Opened o) = (o.side, opened_event exts o.kind o)
happening_of exts (Yielded side packet) = (side, yielded packet)

-- the entries of a run of a setup, as they are read
abbrev pub happenings : Setup → List Entry → List Happening
happenings setup entries = map (happening_of (extensions_of setup)) entries

-- the payload types of a setup: which a line claims, as its type or as that of its repairs; the type of the line that claims one
-- as that of its repairs; whether one does; and the type of the repairs of a type
abbrev pub has_type : ℕ → PayloadType → Bool
has_type pt t = t.pt == pt

abbrev pub is_type : ℕ → Option ℕ → Bool
is_type pt None = false
is_type pt (Some rtx) = rtx == pt

abbrev pub repairs_as : ℕ → PayloadType → Bool
repairs_as pt t = is_type pt t.rtx

abbrev pub primary_in : Setup → ℕ → Option ℕ
primary_in setup pt = option_map (λ (t : PayloadType). t.pt) (find (repairs_as pt) setup.types)

abbrev pub types_of : Setup → Types
types_of setup = record {
  claims = λ pt. list_any (λ n. n == pt) (claimed_of setup);
  primary_of = λ pt. unwrap_or (primary_in setup pt) pt;
  is_rtx = λ pt. is_some (primary_in setup pt);
  rtx_of = λ pt. option_and_then (λ (t : PayloadType). t.rtx) (find (has_type pt) setup.types);
}

-- a stream that a side sends: the number of its first repair, and what it keeps to send it again
abbrev pub outgoing_as : Setup → Stream → Cache → Outgoing
outgoing_as setup stream cache = record {
  ssrc = stream.ssrc;
  rtx = stream.rtx;
  start = start_of stream.ssrc setup;
  packets = cache.packets;
  age = cache.age;
  cap = cache.cap;
}

abbrev pub outgoing_in : Setup → Side → Stream → Option Outgoing
outgoing_in setup side stream =
    if same_side stream.side side then Some (outgoing_as setup stream (cache_of stream.ssrc setup)) else None

-- the streams that a side sends, in order
abbrev pub outgoing_of : Side → Setup → List Outgoing
outgoing_of side setup = flat_map (λ (m : Media). filter_map (outgoing_in setup side) m.streams) setup.media
