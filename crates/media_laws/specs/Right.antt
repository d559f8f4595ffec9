-- That each sealed datagram is a seal under its side's keys.
use Rattle.std.specs.Prelude.{◌≡◌, ◌<◌, ◌≤◌, ◌%◌, false, true, length, take, drop, ◌++◌, Some}
use Rattle.rtp_wire.specs.declared.header.RtpHeader.{RtpHeader}
use Rattle.rtp_wire.specs.Header.{header_bytes, wire_form}
use Rattle.rtp_base.specs.declared.kind.Kind.TheVariants.{Rtp, Rtcp}
use Rattle.srtp_core.specs.RtcpSeals.{sender_of}
use Rattle.media_model.specs.declared.entry.Sealed.{Sealed as SealedEntry}
use Rattle.media_model.specs.declared.entry.Entry.{Entry}
use Rattle.media_model.specs.declared.entry.Entry.TheVariants.{Sealed}
use Rattle.media_model.specs.declared.setup.Setup.{Setup}
use Rattle.run_model.specs.Transcripts.{outgoing_of}
use Rattle.run_model.specs.Tables.{has as has_ssrc}
use Rattle.std.specs.List.{list_any}
use Rattle.media_laws.specs.Opening.{Sealing}
use Rattle.media_laws.specs.Plain.{extensions_of, read_header}
use Rattle.rtp_base.specs.declared.number.TheConstants.{NUMBER_LIMIT}
use Rattle.srtp_core.specs.declared.context.TheConstants.{SRTCP_INDEX_LIMIT}
use Rattle.srtp_core.specs.declared.srtcp.TheConstants.{HEADER_LEN}
use Rattle.rtp_wire.specs.declared.header.TheConstants.{MAX_SOURCES}

-- a sealed RTP datagram is the seal of its plain, which is a header as it is written (RFC 3550 section 5.1), read again as its
-- wire form, with its SSRC and the low 16 bits of its number, and what stands behind it; the SSRC is that of a stream of the side
-- or of its repairs, and there is no padding, so it is no filler
pub record IsSealOf (seal : Sealing) (setup : Setup) (s : SealedEntry) : Type 0 where
  pub rtp : s.kind ≡ Rtp
  pub header : RtpHeader
  pub reads : read_header setup s.plain ≡ Some header
  pub source : header.ssrc ≡ s.ssrc
  pub low : header.sequence_number ≡ s.index % 65536
  pub small : s.index < NUMBER_LIMIT
  pub not_filler : header.has_padding ≡ false
  pub few : header.csrc_count ≤ MAX_SOURCES
  pub sealed_header : RtpHeader
  pub wire : header ≡ wire_form (extensions_of setup) sealed_header
  pub written : s.plain ≡ header_bytes (extensions_of setup) sealed_header ++ drop header.header_len s.plain
  pub stream : list_any (λ L. has_ssrc L s.ssrc) (outgoing_of s.side setup) ≡ true
  pub sealed : s.bytes ≡ seal.rtp s.side s.ssrc s.index s.plain

-- a sealed RTCP datagram is the encrypted seal of its plain of at least 8 bytes, whose first item is
-- from its SSRC
pub record IsRtcpSealOf (seal : Sealing) (s : SealedEntry) : Type 0 where
  pub rtcp : s.kind ≡ Rtcp
  pub header : HEADER_LEN ≤ length s.plain
  pub source : sender_of (take HEADER_LEN s.plain) ≡ s.ssrc
  pub small : s.index < SRTCP_INDEX_LIMIT
  pub sealed : s.bytes ≡ seal.rtcp s.side true s.index s.plain

-- what is sealed is one of these
pub data IsRight (seal : Sealing) (setup : Setup) (s : SealedEntry) : Type 0 where
  right_rtp : IsSealOf seal setup s → IsRight seal setup s
  right_rtcp : IsRtcpSealOf seal s → IsRight seal setup s

-- each of these entries is a right seal
abbrev pub IsRightSeal : Sealing → Setup → Entry → Type 0
IsRightSeal seal setup (Sealed s) = IsRight seal setup s
IsRightSeal seal setup _ = ⊥
