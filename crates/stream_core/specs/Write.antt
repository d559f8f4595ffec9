-- What is written on a stream, and the packet that waits after it.
use Rattle.std.specs.Prelude.{ℕ, ◌-◌, ◌%◌, Bool, false, None, List, ◌++◌, length, replicate}
use Rattle.rtp_wire.specs.declared.values.ExtensionValues.{ExtensionValues}
use Rattle.rtp_wire.specs.declared.header.RtpHeader.{RtpHeader}
use Rattle.rtp_wire.specs.declared.header.TheConstants.{MAX_SOURCES}
use Rattle.stream_core.specs.declared.packet.RtpPacket.{RtpPacket}

-- a write as its callers see it: the moment of its RTP time is in nanoseconds
pub record WriteRecord : Type 0 where
  pub pt : ℕ
  pub seq_no : ℕ
  pub time : ℕ
  pub wallclock : ℕ
  pub marker : Bool
  pub ext_vals : ExtensionValues
  pub nackable : Bool
  pub payload : List ℕ
  pub csrc : List ℕ

-- the header of a packet that waits: what the write says, and the low 16 bits of its number (RFC 3550 section 5.1)
abbrev pub waiting_header : ℕ → WriteRecord → RtpHeader
waiting_header ssrc w = record {
  has_padding = false;
  marker = w.marker;
  payload_type = w.pt;
  sequence_number = w.seq_no % 65536;
  timestamp = w.time;
  ssrc = ssrc;
  csrc_count = length w.csrc;
  csrc = w.csrc ++ replicate (MAX_SOURCES - length w.csrc) 0;
  ext_vals = w.ext_vals;
  header_len = 0;
}

-- the packet that waits after a write on the stream of an SSRC
abbrev pub packet_of : ℕ → WriteRecord → RtpPacket
packet_of ssrc w = record {
  seq_no = w.seq_no;
  time = record { numer = w.time; frequency = 1 };
  header = waiting_header ssrc w;
  payload = w.payload;
  timestamp = None;
  nackable = w.nackable;
}
