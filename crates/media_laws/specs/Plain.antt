-- A write as a plain datagram carries it, and as a packet.
use Rattle.std.specs.Prelude.{◌≡◌, ◌≤◌, ℕ, ◌%◌, false, Option, Some, List, ◌++◌, drop}
use Rattle.rtp_wire.specs.declared.extension.ExtensionMap.{ExtensionMap}
use Rattle.rtp_wire.specs.declared.header.RtpHeader.{RtpHeader}
use Rattle.rtp_wire.specs.Header.{header_of, header_bytes, wire_form, csrc_of}
use Rattle.media_model.specs.declared.setup.Setup.{Setup}
pub use Rattle.media_model.specs.Setup.{extensions_of}
use Rattle.media_model.specs.declared.entry.Write.{Write as Writing}
use Rattle.media_model.specs.declared.entry.Packet.{Packet}
use Rattle.rtp_wire.specs.declared.header.TheConstants.{MAX_SOURCES}

-- the header at the front of the bytes, if one stands there
abbrev pub read_header : Setup → List ℕ → Option RtpHeader
read_header setup bytes = header_of (extensions_of setup) bytes

-- A plain datagram carries a write: under this map it reads with the write's SSRC, the low 16 bits
-- of its number, its type, time, marker and contributing sources, without padding; it is a header
-- as it is written (RFC 3550 section 5.1), which is read again as its wire form, and behind it
-- stands the write's payload.
pub record Carries (exts : ExtensionMap) (plain : List ℕ) (w : Writing) : Type 0 where
  pub header : RtpHeader
  pub reads : header_of exts plain ≡ Some header
  pub ssrc : header.ssrc ≡ w.ssrc
  pub low : header.sequence_number ≡ w.number % 65536
  pub type : header.payload_type ≡ w.pt
  pub time : header.timestamp ≡ w.rtp_time
  pub marker : header.marker ≡ w.marker
  pub no_padding : header.has_padding ≡ false
  pub few : header.csrc_count ≤ MAX_SOURCES
  pub sources : csrc_of header ≡ w.csrc
  pub payload : drop header.header_len plain ≡ w.payload
  pub sealed : RtpHeader
  pub wire : header ≡ wire_form exts sealed
  pub written : plain ≡ header_bytes exts sealed ++ w.payload

-- the packet that a write is
abbrev pub as_packet : Writing → Packet
as_packet w = record {
  ssrc = w.ssrc;
  number = w.number;
  pt = w.pt;
  rtp_time = w.rtp_time;
  marker = w.marker;
  csrc = w.csrc;
  payload = w.payload;
}
