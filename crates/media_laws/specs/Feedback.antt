-- What the calls of applications have their sides send.
use Rattle.std.specs.Prelude.{◌≡◌, ◌<◌, ◌≤◌, ◌+◌, ℕ, true, List, [], ◌∷◌, length, take}
use Rattle.rtcp_wire.specs.declared.packet.Rtcp.TheVariants.{AppSpecificFeedback}
use Rattle.rtcp_wire.specs.Texts.{text_of}
use Rattle.srtp_core.specs.RtcpSeals.{sender_of}
use Rattle.rtp_base.specs.declared.kind.Kind.TheVariants.{Rtcp}
use Rattle.media_model.specs.declared.entry.Side.{Side}
use Rattle.media_model.specs.declared.entry.Sealed.{Sealed as SealedEntry}
use Rattle.media_model.specs.declared.entry.Entry.{Entry}
use Rattle.media_model.specs.declared.entry.Entry.TheVariants.{Sealed}
use Rattle.media_model.specs.declared.setup.Setup.{Setup}
use Rattle.media_model.specs.Entries.{srtcp_indices}
use Rattle.media_model.specs.Setup.{local_of}
use Rattle.media_laws.specs.Opening.{Sealing}
use Rattle.srtp_core.specs.declared.context.TheConstants.{SRTCP_INDEX_LIMIT}
use Rattle.srtp_core.specs.declared.srtcp.TheConstants.{HEADER_LEN}

-- the index under which a side seals its next RTCP datagram: the setup's first one, and one more for each that it sealed
abbrev pub next_index : Setup → Side → List Entry → ℕ
next_index setup side entries = (local_of side setup).srtcp_index + length (srtcp_indices side entries)

-- the packet of an application's feedback (RFC 4585 section 6.4)
abbrev pub application_packet : (sender media : ℕ) → List ℕ → List ℕ
application_packet sender media payload =
    text_of (AppSpecificFeedback (record { sender_ssrc = sender; media_ssrc = media; payload = payload }))

-- after these entries a side seals a packet, encrypted, as its next RTCP datagram
pub record IsSealOfPacket (seal : Sealing) (setup : Setup) (by : Side) (past : List Entry) (packet : List ℕ)
    (s : SealedEntry) : Type 0 where
  pub side : s.side ≡ by
  pub kind : s.kind ≡ Rtcp
  pub ssrc : s.ssrc ≡ sender_of (take HEADER_LEN packet)
  pub index : s.index ≡ next_index setup by past
  pub left : s.index < SRTCP_INDEX_LIMIT
  pub plain : s.plain ≡ packet
  pub header : HEADER_LEN ≤ length packet
  pub bytes : s.bytes ≡ seal.rtcp by true s.index packet

-- what a call of a side's application brings: the seal of its feedback, which is all that waits
pub data SendsFeedback (seal : Sealing) (setup : Setup) (side : Side) (past : List Entry) : List Entry → Type 0 where
  sends : (sender media : ℕ) (payload : List ℕ) (s : SealedEntry)
      → IsSealOfPacket seal setup side past (application_packet sender media payload) s
      → SendsFeedback seal setup side past (Sealed s ∷ [])
