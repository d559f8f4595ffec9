-- What the definitions of reading and writing owe each other.
use Rattle.std.specs.Prelude.{◌≡◌, ℕ, ◌*◌, min, map, take, ◌%◌, ◌^◌, ◌<◌, ◌≤◌, List, ◌++◌, length, Some, false}
use Rattle.std.specs.List.{flat_map, AllByRecursion}
use Rattle.rtcp_wire.specs.declared.packet.Rtcp.{Rtcp}
use Rattle.rtcp_wire.specs.declared.packet.Rtcp.TheVariants.{SenderReport, ReceiverReport, SourceDescription, Goodbye, ExtendedReport, Nack, Pli, Fir, Twcc, Remb, AppSpecificFeedback}
use Rattle.rtp_base.specs.declared.nack_entry.NackEntry.{NackEntry}
use Rattle.rtcp_wire.specs.declared.request.FirEntry.{FirEntry}
use Rattle.rtp_base.specs.ReceptionReport.{IsReceptionReport}
use Rattle.rtcp_items.specs.declared.report.SenderInfo.{SenderInfo}
use Rattle.rtcp_items.specs.declared.extended.DlrrItem.{DlrrItem}
use Rattle.rtcp_items.specs.declared.extended.ReportBlock.{ReportBlock}
use Rattle.rtcp_items.specs.declared.extended.ReportBlock.TheVariants.{Rrtr, Dlrr}
use Rattle.rtcp_items.specs.declared.source.SdesItem.{SdesItem}
use Rattle.rtcp_items.specs.declared.source.Sdes.{Sdes}
use Rattle.media_units.specs.declared.rate.TheConstants.{GREATEST_RATE}
use Rattle.rtp_base.specs.declared.report_list.TheConstants.{MAX_REPORTS}
use Rattle.twcc_core.specs.declared.feedback.TheConstants.{BODY_LIMIT}
use Rattle.rtcp_wire.specs.declared.extended.TheConstants.{MAX_DLRR_ITEMS}
use Rattle.media_units.specs.Wallclock.{unix_of_ntp, ntp_of_unix}
use Rattle.rtcp_items.specs.SdesTypes.{sdes_number, sdes_type_of}
use Rattle.rtcp_wire.specs.Remb.{is_remb, mantissa_of, exponent_of}
use Rattle.rtcp_wire.specs.Frame.{frame_at}
use Rattle.rtcp_wire.specs.Items.{items_of}
use Rattle.twcc_core.specs.Laws.{IsFeedback}
use Rattle.rtcp_wire.specs.Texts.{framed, text_of, body_of, IsWritable, LengthsFit}

-- the frame of a written item is read again, whatever follows it
abbrev pub FramesReadBack : Type 0
FramesReadBack =
    (count kind : ℕ) (body rest : List ℕ) → count ≤ MAX_REPORTS → length body % 4 ≡ 0 → length body < BODY_LIMIT
    → frame_at (framed count kind body ++ rest) ≡ Some (record { count = count; kind = kind; body = body; rest = rest })

-- the fields fit their places on the wire
abbrev pub IsNackEntry : NackEntry → Type 0
IsNackEntry e = (e.pid < 2 ^ 16) × (e.blp < 2 ^ 16)

abbrev pub IsFirEntry : FirEntry → Type 0
IsFirEntry e = e.ssrc < 2 ^ 32

-- what the wire holds of a moment, and of a rate
abbrev pub held_info : SenderInfo → SenderInfo
held_info s = record s { ntp_time = unix_of_ntp (ntp_of_unix s.ntp_time) }

abbrev pub held_rate : ℕ → ℕ
held_rate rate = min (mantissa_of rate * 2 ^ exponent_of rate) GREATEST_RATE

abbrev pub held_block : ReportBlock → ReportBlock
held_block (Rrtr r) = Rrtr (record { ntp_time = unix_of_ntp (ntp_of_unix r.ntp_time) })
held_block (Dlrr d) = Dlrr d

-- of a source's items the first 31
abbrev pub held_sdes : Sdes → Sdes
held_sdes s = record s { values = take MAX_REPORTS s.values }

-- an item as its wire form holds it: moments and rates as they are rounded, and of the lists of blocks and
-- of a source's items what is read
abbrev pub held : Rtcp → Rtcp
held (SenderReport r) = SenderReport (record { sender_info = held_info r.sender_info; reports = r.reports })
held (Remb r) = Remb (record { sender_ssrc = r.sender_ssrc; bitrate = held_rate r.bitrate; ssrcs = r.ssrcs })
held (ReceiverReport r) = ReceiverReport r
held (SourceDescription d) = SourceDescription (record { reports = map held_sdes d.reports })
held (Goodbye g) = Goodbye g
held (ExtendedReport r) = ExtendedReport (record { ssrc = r.ssrc; blocks = map held_block (take MAX_REPORTS r.blocks) })
held (Nack n) = Nack n
held (Pli p) = Pli p
held (Fir f) = Fir f
held (Twcc t) = Twcc t
held (AppSpecificFeedback f) = AppSpecificFeedback f

abbrev pub IsDlrrItem : DlrrItem → Type 0
IsDlrrItem i = (i.ssrc < 2 ^ 32) × (i.last_rr_time < 2 ^ 32) × (i.last_rr_delay < 2 ^ 32)

abbrev pub IsBlock : ReportBlock → Type 0
IsBlock (Rrtr r) = Unit {0}
IsBlock (Dlrr d) = (length d.items ≤ MAX_DLRR_ITEMS) × AllByRecursion IsDlrrItem d.items

-- the type is the one that its number names
abbrev pub IsSdesItem : SdesItem → Type 0
IsSdesItem i = sdes_type_of (sdes_number i.kind) ≡ i.kind

abbrev pub IsSdes : Sdes → Type 0
IsSdes s = (s.ssrc < 2 ^ 32) × AllByRecursion IsSdesItem s.values

-- reports, descriptions, goodbyes and feedback whose fields fit, and application feedback whose words are not those
-- of a REMB
abbrev pub FieldsFit : Rtcp → Type 0
FieldsFit (SenderReport r) = (r.sender_info.ssrc < 2 ^ 32) × (r.sender_info.rtp_time < 2 ^ 32) × (r.sender_info.sender_packet_count < 2 ^ 32) × (r.sender_info.sender_octet_count < 2 ^ 32) × AllByRecursion IsReceptionReport r.reports
FieldsFit (Remb r) = (r.sender_ssrc < 2 ^ 32) × (r.bitrate < 2 ^ 64) × AllByRecursion (λ s. s < 2 ^ 32) r.ssrcs
FieldsFit (ReceiverReport r) = (r.sender_ssrc < 2 ^ 32) × AllByRecursion IsReceptionReport r.reports
FieldsFit (SourceDescription d) = AllByRecursion IsSdes d.reports
FieldsFit (Goodbye g) = AllByRecursion (λ s. s < 2 ^ 32) g.reports
FieldsFit (Nack n) = (n.sender_ssrc < 2 ^ 32) × (n.ssrc < 2 ^ 32) × (length n.reports ≤ MAX_REPORTS) × AllByRecursion IsNackEntry n.reports
FieldsFit (Pli p) = (p.sender_ssrc < 2 ^ 32) × (p.ssrc < 2 ^ 32)
FieldsFit (Fir f) = (f.sender_ssrc < 2 ^ 32) × (length f.reports ≤ MAX_REPORTS) × AllByRecursion IsFirEntry f.reports
FieldsFit (Twcc t) = IsFeedback t
FieldsFit (AppSpecificFeedback f) = (f.sender_ssrc < 2 ^ 32) × (f.media_ssrc < 2 ^ 32) × (is_remb (body_of (AppSpecificFeedback f)) ≡ false)
FieldsFit (ExtendedReport r) = (r.ssrc < 2 ^ 32) × AllByRecursion IsBlock r.blocks

pub record IsHeld (x : Rtcp) : Type 0 where
  pub writable : IsWritable x
  pub fields : FieldsFit x

-- such items, written one after another, are read again, in order
abbrev pub ItemsReadBack : Type 0
ItemsReadBack = (xs : List Rtcp) → AllByRecursion IsHeld xs → items_of (flat_map text_of xs) ≡ map held xs

-- items whose counts and lengths fit can be written
abbrev pub ItemsFitByLengths : Type 0
ItemsFitByLengths = (x : Rtcp) → LengthsFit x → IsWritable x
