-- Packets on their way through a session.
use Rattle.std.specs.Prelude.{ℕ, List, [], ◌∷◌, map, Option, Some}
use Rattle.rtp_wire.specs.Extensions.{no_values}
use Rattle.stream_core.specs.declared.packet.RtpPacket.{RtpPacket}
use Rattle.stream_core.specs.Write.{WriteRecord}
use Rattle.session_core.specs.declared.datagram.Datagram.{Datagram}
use Rattle.session_core.specs.declared.datagram.Event.{Event}
use Rattle.session_core.specs.declared.datagram.Event.TheVariants.{RtpPacket as Told}
use Rattle.media_model.specs.declared.entry.Side.{Side}
use Rattle.media_model.specs.declared.entry.Write.{Write as Writing}
use Rattle.media_model.specs.declared.entry.Sealed.{Sealed as SealedEntry}
use Rattle.media_model.specs.declared.entry.Entry.{Entry}
use Rattle.media_model.specs.declared.entry.Entry.TheVariants.{Sealed}

-- a write as it is handed to its stream, at a moment
abbrev pub write_at : ℕ → Writing → WriteRecord
write_at time w = record {
  pt = w.pt;
  seq_no = w.number;
  time = w.rtp_time;
  wallclock = time;
  marker = w.marker;
  ext_vals = no_values;
  nackable = w.nackable;
  payload = w.payload;
  csrc = w.csrc;
}

-- a datagram that a session sends, as an entry of its side
abbrev pub sealed_from : Side → Datagram → SealedEntry
sealed_from side d = record {
  side = side;
  kind = d.kind;
  ssrc = d.ssrc;
  index = d.index;
  plain = d.plain;
  bytes = d.bytes;
}

abbrev pub seals_from : Side → List Datagram → List Entry
seals_from side datagrams = map (λ d. Sealed (sealed_from side d)) datagrams

-- the packet of an event, else the one before
abbrev pub packet_after : Event → Option RtpPacket → Option RtpPacket
packet_after (Told p) before = Some p
packet_after _ before = before

-- the last packet of events, else the one before
abbrev pub packet_in : List Event → Option RtpPacket → Option RtpPacket
packet_in [] before = before
packet_in (e ∷ es) before = packet_in es (packet_after e before)
