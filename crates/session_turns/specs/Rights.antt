-- That what a session seals, and what it opens, is a seal of the plain datagram that it tells of.
use Rattle.std.specs.Prelude.{◌≡◌, ◌<◌, ◌≤◌, ◌%◌, ℕ, true, false, List, ◌++◌, length, take, drop, slice_index, Some}
use Rattle.std.specs.List.{list_any, AllByRecursion}
use Rattle.rtp_base.specs.declared.kind.Kind.TheVariants.{Rtp, Rtcp}
use Rattle.rtp_wire.specs.declared.extension.ExtensionMap.{ExtensionMap}
use Rattle.rtp_wire.specs.declared.header.RtpHeader.{RtpHeader}
use Rattle.rtp_wire.specs.Header.{header_of, header_bytes, wire_form}
use Rattle.srtp_core.specs.Cipher.{CipherMeaning}
use Rattle.srtp_core.specs.Contexts.{SrtpState}
use Rattle.srtp_core.specs.Seals.{sealed_rtp}
use Rattle.srtp_core.specs.RtcpSeals.{sealed_rtcp, sender_of, stated_bit, stated_index}
use Rattle.session_core.specs.declared.datagram.Datagram.{Datagram}
use Rattle.session_core.specs.declared.datagram.Opened.{Opened as Opening}
use Rattle.session_core.specs.Calls.{after_events, with_feedback}
use Rattle.session_core.specs.Feedback.{FitsAlone}
use Rattle.session_core.specs.Hearing.{ReceivesRtcp}
use Rattle.session_core.specs.Receiving.{Receives}
use Rattle.session_core.specs.Rounds.{after_timeout}
use Rattle.session_core.specs.Sending.{NextDatagram, DrainsTo}
use Rattle.session_core.specs.SessionRecord.{SessionRecord}
use Rattle.rtcp_wire.specs.declared.feedback.AppSpecificFeedback.{AppSpecificFeedback as Application}
use Rattle.rtcp_wire.specs.declared.packet.Rtcp.TheVariants.{AppSpecificFeedback}
use Rattle.rtcp_wire.specs.Texts.{text_of}
use Rattle.media_model.specs.declared.entry.Side.{Side}
use Rattle.run_model.specs.Events.{Outgoing}
use Rattle.run_model.specs.Tables.{has}
use Rattle.run_model.specs.Whole.{Config, Session}
use Rattle.session_turns.specs.Reading.{len_in}
use Rattle.session_turns.specs.Mirrors.{Mirrors, IsFit}
use Rattle.rtp_base.specs.declared.number.TheConstants.{NUMBER_LIMIT}
use Rattle.srtp_core.specs.declared.context.TheConstants.{SRTCP_INDEX_LIMIT}
use Rattle.srtp_core.specs.declared.srtcp.TheConstants.{HEADER_LEN}
use Rattle.rtp_wire.specs.declared.header.TheConstants.{MAX_SOURCES}

-- an RTP datagram of a stream of these lines, or of its repairs: its plain is a header as it is written, which reads with its
-- SSRC and the low 16 bits of its number, without padding, and what stands behind it
pub record IsRightRtp (cipher : CipherMeaning) (exts : ExtensionMap) (own : SrtpState) (lines : List Outgoing) (d : Datagram) : Type 0 where
  pub rtp : d.kind ≡ Rtp
  pub header : RtpHeader
  pub reads : header_of exts d.plain ≡ Some header
  pub source : header.ssrc ≡ d.ssrc
  pub low : header.sequence_number ≡ d.index % 65536
  pub small : d.index < NUMBER_LIMIT
  pub not_filler : header.has_padding ≡ false
  pub few : header.csrc_count ≤ MAX_SOURCES
  pub stream : list_any (λ L. has L d.ssrc) lines ≡ true
  pub sealed_header : RtpHeader
  pub wire : header ≡ wire_form exts sealed_header
  pub written : d.plain ≡ header_bytes exts sealed_header ++ drop header.header_len d.plain
  pub sealed : d.bytes ≡ sealed_rtp cipher own.profile own.keys d.ssrc d.index (len_in exts d.plain) d.plain

-- an RTCP datagram: the encrypted seal of at least 8 bytes, whose first item is from its SSRC
pub record IsRightRtcp (cipher : CipherMeaning) (own : SrtpState) (d : Datagram) : Type 0 where
  pub rtcp : d.kind ≡ Rtcp
  pub header : HEADER_LEN ≤ length d.plain
  pub source : sender_of (take HEADER_LEN d.plain) ≡ d.ssrc
  pub small : d.index < SRTCP_INDEX_LIMIT
  pub sealed : d.bytes ≡ sealed_rtcp cipher own.profile own.keys true d.index d.plain

pub data IsRight (cipher : CipherMeaning) (exts : ExtensionMap) (own : SrtpState) (lines : List Outgoing) (d : Datagram) : Type 0 where
  right_rtp : IsRightRtp cipher exts own lines d → IsRight cipher exts own lines d
  right_rtcp : IsRightRtcp cipher own d → IsRight cipher exts own lines d

-- all that leaves at a tick, and all that left before an error
abbrev pub SealsAreRight : Type 0
SealsAreRight =
    (cipher : CipherMeaning) (C : Config) (side : Side) (r after : SessionRecord) (a : Session) (own : SrtpState) (time : ℕ) (all : List Datagram)
    → IsFit C → Mirrors cipher C side r a → r.state.sealing ≡ Some own → 0 < time
    → DrainsTo cipher time (after_events (after_timeout time r)) after all
    → AllByRecursion (IsRight cipher r.state.transport.exts own (C.outgoing side)) all

-- and at a call of the application
pub record IsCallRight (cipher : CipherMeaning) (own : SrtpState) (feedback : Application) (d : Datagram) : Type 0 where
  pub right : IsRightRtcp cipher own d
  pub index : d.index ≡ own.srtcp_index
  pub plain : d.plain ≡ text_of (AppSpecificFeedback feedback)

abbrev pub CallsAreRight : Type 0
CallsAreRight =
    (cipher : CipherMeaning) (C : Config) (side : Side) (r after : SessionRecord) (a : Session) (own : SrtpState) (time : ℕ) (feedback : Application) (d : Datagram)
    → IsFit C → Mirrors cipher C side r a → r.state.sealing ≡ Some own → 0 < time → FitsAlone (AppSpecificFeedback feedback)
    → NextDatagram cipher time (record r { state = with_feedback (AppSpecificFeedback feedback) r.state }) after (Some d)
    → IsCallRight cipher own feedback d

-- what an RTP datagram opened to: its plain reads with its SSRC and the low 16 bits of its number, and the bytes are its seal
pub record IsRightOpening (cipher : CipherMeaning) (exts : ExtensionMap) (other : SrtpState) (bytes : List ℕ) (o : Opening) : Type 0 where
  pub rtp : o.kind ≡ Rtp
  pub header : RtpHeader
  pub reads : header_of exts o.plain ≡ Some header
  pub source : header.ssrc ≡ o.ssrc
  pub low : header.sequence_number ≡ o.index % 65536
  pub sealed : sealed_rtp cipher other.profile other.keys o.ssrc o.index (len_in exts o.plain) o.plain ≡ bytes

abbrev pub OpeningsAreRight : Type 0
OpeningsAreRight =
    (cipher : CipherMeaning) (C : Config) (side : Side) (r after : SessionRecord) (a : Session) (other : SrtpState) (time : ℕ) (bytes : List ℕ) (o : Opening)
    → Mirrors cipher C side r a → r.state.opening ≡ Some other → ((i : ℕ) → slice_index bytes i < 256) → Receives cipher r bytes time after (Some o)
    → IsRightOpening cipher r.state.transport.exts other bytes o

-- what an RTCP datagram opened to: at least 8 bytes, of which the bytes are the seal that they state
pub record IsRightRtcpOpening (cipher : CipherMeaning) (other : SrtpState) (bytes : List ℕ) (o : Opening) : Type 0 where
  pub rtcp : o.kind ≡ Rtcp
  pub header : HEADER_LEN ≤ length o.plain
  pub source : sender_of (take HEADER_LEN o.plain) ≡ o.ssrc
  pub stated : o.index ≡ stated_index other.profile bytes
  pub sealed : sealed_rtcp cipher other.profile other.keys (stated_bit other.profile bytes) o.index o.plain ≡ bytes

abbrev pub RtcpOpeningsAreRight : Type 0
RtcpOpeningsAreRight =
    (cipher : CipherMeaning) (r after : SessionRecord) (other : SrtpState) (time : ℕ) (bytes : List ℕ) (o : Opening)
    → r.state.opening ≡ Some other → ReceivesRtcp cipher r bytes time after (Some o) → IsRightRtcpOpening cipher other bytes o
