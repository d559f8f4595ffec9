-- How the sides of a run seal, and what is opened.
use Rattle.std.specs.Prelude.{◌≡◌, ◌≤◌, ◌%◌, ℕ, Bool, List, length, take, Some}
use Rattle.rtp_wire.specs.declared.header.RtpHeader.{RtpHeader}
use Rattle.media_model.specs.declared.entry.Side.{Side}
use Rattle.rtp_base.specs.declared.kind.Kind.{Kind}
use Rattle.rtp_base.specs.declared.kind.Kind.TheVariants.{Rtp, Rtcp}
use Rattle.media_model.specs.declared.entry.Got.{Got as GotEntry}
use Rattle.media_model.specs.declared.entry.Opened.{Opened as OpenedEntry}
use Rattle.media_model.specs.declared.setup.Setup.{Setup}
use Rattle.media_model.specs.Sides.{peer_of}
use Rattle.media_laws.specs.Plain.{read_header}
use Rattle.srtp_core.specs.declared.srtcp.TheConstants.{HEADER_LEN}
use Rattle.srtp_core.specs.RtcpSeals.{sender_of}

-- how the sides of a run seal RTP, under an SSRC and an index, and RTCP, encrypted or not, under an index; and what an RTCP
-- datagram states of both
pub record Sealing : Type 0 where
  pub rtp : Side → (ssrc index : ℕ) → List ℕ → List ℕ
  pub rtcp : Side → (encrypted : Bool) → (index : ℕ) → List ℕ → List ℕ
  pub encrypts : List ℕ → Bool
  pub states : List ℕ → ℕ

-- a datagram that comes to a side
abbrev pub got_as : Side → ℕ → Kind → List ℕ → GotEntry
got_as side time kind bytes = record { side = side; time = time; kind = kind; bytes = bytes }

-- an RTP datagram that came to a side was opened to a plain one: it is the peer's seal of that, which reads with its SSRC and
-- the low 16 bits of its number
pub record IsRtpOpening (seal : Sealing) (setup : Setup) (got : GotEntry) (o : OpenedEntry) : Type 0 where
  pub rtp : o.kind ≡ Rtp
  pub header : RtpHeader
  pub reads : read_header setup o.plain ≡ Some header
  pub source : header.ssrc ≡ o.ssrc
  pub low : header.sequence_number ≡ o.index % 65536
  pub sealed : seal.rtp (peer_of o.side) o.ssrc o.index o.plain ≡ got.bytes

-- an RTCP datagram was opened to a packet of at least 8 bytes, whose first item is from its SSRC: it is the peer's seal of
-- that as it states
pub record IsRtcpOpening (seal : Sealing) (got : GotEntry) (o : OpenedEntry) : Type 0 where
  pub rtcp : o.kind ≡ Rtcp
  pub header : HEADER_LEN ≤ length o.plain
  pub source : sender_of (take HEADER_LEN o.plain) ≡ o.ssrc
  pub stated : o.index ≡ seal.states got.bytes
  pub sealed : seal.rtcp (peer_of o.side) (seal.encrypts got.bytes) o.index o.plain ≡ got.bytes

pub data IsOpening (seal : Sealing) (setup : Setup) (got : GotEntry) (o : OpenedEntry) : Type 0 where
  rtp_opening : IsRtpOpening seal setup got o → IsOpening seal setup got o
  rtcp_opening : IsRtcpOpening seal got o → IsOpening seal setup got o
