-- What a packet's header says when the packet is sealed.
use Rattle.std.specs.Prelude.{ℕ, ◌+◌, ◌-◌, ◌%◌, ◌^◌, min, Bool, is_some, if◌then◌else◌, Option, Some, None, List, length}
use Rattle.media_units.specs.Wallclock.{ntp_nanos}
use Rattle.rtp_wire.specs.AbsTime.{send_units}
use Rattle.rtp_wire.specs.declared.abs_time.TheConstants.{SEND_TIME_LIMIT}
use Rattle.rtp_wire.specs.declared.values.ExtensionValues.{ExtensionValues}
use Rattle.rtp_wire.specs.declared.extension.Extension.{Extension}
use Rattle.rtp_wire.specs.declared.extension.Extension.TheVariants.{AbsoluteSendTime, TransportSequenceNumber}
use Rattle.rtp_wire.specs.declared.header.RtpHeader.{RtpHeader}
use Rattle.rtp_wire.specs.Extensions.{id_of}
use Rattle.rtp_wire.specs.Header.{header_bytes}
use Rattle.stream_core.specs.declared.transport.Transport.{Transport}

-- an extension has an id on a transport
abbrev pub has_id : Transport → Extension → Bool
has_id t e = is_some (id_of t.exts e)

-- a moment as an absolute send time: NTP seconds in units of 2^-18 s, modulo 2^24
abbrev pub send_time : Transport → ℕ → ℕ
send_time t now = send_units (ntp_nanos t.beginning.unix_secs now) % SEND_TIME_LIMIT

-- values, with what a packet tells of its sealing: where they have ids, the moment and the low 16 bits of the packet's
-- number on the transport
abbrev pub with_sealing : Transport → ℕ → ExtensionValues → ExtensionValues
with_sealing t now values = record values {
  abs_send_time = if has_id t AbsoluteSendTime then Some (send_time t now) else values.abs_send_time;
  transport_cc = if has_id t TransportSequenceNumber then Some (t.twcc % 65536) else values.transport_cc;
}

-- the values that a packet has when it is sealed: its own; the mid and the rid of its stream, until the peer has
-- acknowledged the stream's SSRC; where they have ids, the moment and the low 16 bits of the packet's number on the
-- transport; and no rid that it repairs
abbrev pub sealed_values : Transport → ℕ → (acknowledged : Bool) → List ℕ → Option (List ℕ) → ExtensionValues → ExtensionValues
sealed_values t now acknowledged mid rid values = record values {
  mid = if acknowledged then values.mid else Some mid;
  rid = if acknowledged then values.rid else rid;
  rid_repair = None;
  abs_send_time = if has_id t AbsoluteSendTime then Some (send_time t now) else values.abs_send_time;
  transport_cc = if has_id t TransportSequenceNumber then Some (t.twcc % 65536) else values.transport_cc;
}

-- the header with these values, and its length
abbrev pub with_values : Transport → RtpHeader → ExtensionValues → RtpHeader
with_values t header values =
    let valued = record header { ext_vals = values } in
    record valued { header_len = length (header_bytes t.exts valued) }

-- the transport after one more packet: where the transport number has an id, it is one higher
abbrev pub after_packet : Transport → Transport
after_packet t = record t { twcc = if has_id t TransportSequenceNumber then min (t.twcc + 1) (2 ^ 64 - 1) else t.twcc }
