-- How the datagrams of a session are read as events of a side.
use Rattle.std.specs.Prelude.{ℕ, is_some, unwrap_or, List, [], ◌∷◌, map, Option, Some, None}
use Rattle.rtp_base.specs.declared.kind.Kind.{Kind}
use Rattle.rtp_base.specs.declared.kind.Kind.TheVariants.{Rtp, Rtcp}
use Rattle.rtp_wire.specs.declared.extension.ExtensionMap.{ExtensionMap}
use Rattle.rtp_wire.specs.Header.{csrc_of}
use Rattle.srtp_core.specs.Cipher.{CipherMeaning}
use Rattle.srtp_core.specs.Contexts.{SrtpState}
use Rattle.srtp_core.specs.Seals.{sealed_rtp}
use Rattle.srtp_core.specs.RtcpSeals.{sealed_rtcp, stated_bit, stated_index}
use Rattle.stream_core.specs.declared.payload_types.TypeRow.{TypeRow}
use Rattle.stream_core.specs.declared.packet.RtpPacket.{RtpPacket}
use Rattle.stream_core.specs.Repairing.{rtx_type_of, primary_type_of}
use Rattle.session_core.specs.declared.datagram.Datagram.{Datagram}
use Rattle.session_core.specs.declared.datagram.Opened.{Opened as Opening}
use Rattle.session_core.specs.Hearing.{feedback_in}
use Rattle.session_core.specs.Repairs.{is_known}
use Rattle.media_model.specs.declared.entry.Packet.{Packet}
use Rattle.run_model.specs.Events.{Event, sealed, sealed_items, opened, opened_items, yielded, Types}
use Rattle.run_model.specs.Seals.{Sealing, Reporting}
pub use Rattle.run_model.specs.Transcripts.{plain_of, no_plain, plain_in, read_of, reading, len_in}

-- how a context seals
abbrev pub sealing_of : CipherMeaning → ExtensionMap → SrtpState → Sealing
sealing_of cipher exts state = record {
  read = reading exts;
  seal = λ ssrc n plain. sealed_rtp cipher state.profile state.keys ssrc n (len_in exts plain) plain;
}

abbrev pub reporting_of : CipherMeaning → SrtpState → Reporting
reporting_of cipher state = record {
  seal = λ encrypted index packet. sealed_rtcp cipher state.profile state.keys encrypted index packet;
  encrypts = stated_bit state.profile;
  states = stated_index state.profile;
  items = feedback_in;
}

-- the payload types that both ends know
abbrev pub types_in : List (ℕ × TypeRow) → Types
types_in rows = record {
  claims = is_known rows;
  primary_of = λ pt. unwrap_or (primary_type_of rows pt) pt;
  is_rtx = λ pt. is_some (primary_type_of rows pt);
  rtx_of = rtx_type_of rows;
}

-- a datagram that leaves, as an event
abbrev pub event_as : ExtensionMap → Kind → Datagram → Event
event_as exts Rtp d = sealed d.ssrc d.index (plain_in exts d.plain) d.bytes
event_as exts Rtcp d = sealed_items d.index (feedback_in d.plain)

abbrev pub event_of : ExtensionMap → Datagram → Event
event_of exts d = event_as exts d.kind d

abbrev pub events_of : ExtensionMap → List Datagram → List Event
events_of exts datagrams = map (event_of exts) datagrams

-- what a datagram opened to, as an event
abbrev pub opening_as : ExtensionMap → Kind → Opening → Event
opening_as exts Rtp o = opened o.ssrc o.index (plain_in exts o.plain)
opening_as exts Rtcp o = opened_items o.index (feedback_in o.plain)

abbrev pub opening_event : ExtensionMap → Opening → Event
opening_event exts o = opening_as exts o.kind o

-- a packet that a session tells
abbrev pub packet_told : RtpPacket → Packet
packet_told p = record {
  ssrc = p.header.ssrc;
  number = p.seq_no;
  pt = p.header.payload_type;
  rtp_time = p.header.timestamp;
  marker = p.header.marker;
  csrc = csrc_of p.header;
  payload = p.payload;
}

-- what is yielded of it
abbrev pub yields_of : Option RtpPacket → List Event
yields_of None = []
yields_of (Some p) = yielded (packet_told p) ∷ []

-- what a datagram that came brings: what it opened to, and the packet that waits to be told then
abbrev pub events_opened : ExtensionMap → Option Opening → Option RtpPacket → List Event
events_opened exts None packet = []
events_opened exts (Some o) packet = opening_event exts o ∷ yields_of packet
