-- Items in bytes.
use Rattle.std.specs.Prelude.{◌≡◌, ℕ, suc, ◌+◌, ◌-◌, ◌*◌, ◌/◌, ◌%◌, ◌≤◌, ◌<◌, List, [], ◌∷◌, ◌++◌, length, nat_le, if◌then◌else◌}
use Rattle.std.specs.List.{AllByRecursion}
use Rattle.std.specs.Int.{w16, to_be_bytes}
use Rattle.rtcp_wire.specs.declared.packet.Rtcp.{Rtcp}
use Rattle.rtcp_wire.specs.declared.packet.Rtcp.TheVariants.{SenderReport, ReceiverReport, SourceDescription, Goodbye, ExtendedReport, Nack, Pli, Fir, Twcc, Remb, AppSpecificFeedback}
use Rattle.rtcp_items.specs.declared.source.SdesItem.{SdesItem}
use Rattle.rtcp_items.specs.declared.source.Sdes.{Sdes}
use Rattle.rtp_base.specs.declared.kind.TheConstants.{RTP_VERSION}
use Rattle.rtp_base.specs.declared.report_list.TheConstants.{MAX_REPORTS}
use Rattle.twcc_core.specs.declared.feedback.TheConstants.{BODY_LIMIT}
use Rattle.rtcp_wire.specs.declared.packet.TheConstants.{SENDER_REPORT_TYPE, RECEIVER_REPORT_TYPE, SOURCE_DESCRIPTION_TYPE, GOODBYE_TYPE, TRANSPORT_FEEDBACK_TYPE, PAYLOAD_FEEDBACK_TYPE, EXTENDED_REPORT_TYPE, NACK_FORMAT, TWCC_FORMAT, PLI_FORMAT, FIR_FORMAT, APPLICATION_FORMAT}
use Rattle.rtcp_wire.specs.Reports.{sender_report_body, receiver_report_body, goodbye_body}
use Rattle.rtcp_items.specs.SdesTypes.{sdes_number}
use Rattle.rtcp_wire.specs.Descriptions.{descriptions_body}
use Rattle.rtcp_wire.specs.Remb.{remb_body}
use Rattle.rtcp_wire.specs.Extended.{extended_report_body}
use Rattle.rtcp_wire.specs.Feedback.{nack_body, pli_body, fir_body, app_feedback_body}
use Rattle.twcc_core.specs.Feedback.{twcc_bytes}

-- the packet type (RFC 3550 section 12.1, RFC 4585 section 6.1)
abbrev pub kind_of : Rtcp → ℕ
kind_of (SenderReport r) = SENDER_REPORT_TYPE
kind_of (ReceiverReport r) = RECEIVER_REPORT_TYPE
kind_of (SourceDescription d) = SOURCE_DESCRIPTION_TYPE
kind_of (Goodbye g) = GOODBYE_TYPE
kind_of (ExtendedReport r) = EXTENDED_REPORT_TYPE
kind_of (Nack n) = TRANSPORT_FEEDBACK_TYPE
kind_of (Pli p) = PAYLOAD_FEEDBACK_TYPE
kind_of (Fir f) = PAYLOAD_FEEDBACK_TYPE
kind_of (Twcc t) = TRANSPORT_FEEDBACK_TYPE
kind_of (Remb r) = PAYLOAD_FEEDBACK_TYPE
kind_of (AppSpecificFeedback f) = PAYLOAD_FEEDBACK_TYPE

-- the count, or the format of feedback
abbrev pub count_of : Rtcp → ℕ
count_of (SenderReport r) = length r.reports
count_of (ReceiverReport r) = length r.reports
count_of (SourceDescription d) = length d.reports
count_of (Goodbye g) = length g.reports
count_of (ExtendedReport r) = 0
count_of (Nack n) = NACK_FORMAT
count_of (Pli p) = PLI_FORMAT
count_of (Fir f) = FIR_FORMAT
count_of (Twcc t) = TWCC_FORMAT
count_of (Remb r) = APPLICATION_FORMAT
count_of (AppSpecificFeedback f) = APPLICATION_FORMAT

-- the bytes after the header
abbrev pub body_of : Rtcp → List ℕ
body_of (SenderReport r) = sender_report_body r
body_of (ReceiverReport r) = receiver_report_body r
body_of (SourceDescription d) = descriptions_body d
body_of (Goodbye g) = goodbye_body g
body_of (ExtendedReport r) = extended_report_body r
body_of (Nack n) = nack_body n
body_of (Pli p) = pli_body p
body_of (Fir f) = fir_body f
body_of (Twcc t) = twcc_bytes t
body_of (Remb r) = remb_body r
body_of (AppSpecificFeedback f) = app_feedback_body f

-- an item in bytes: the version and the count, the type, the length in words less one, the body
abbrev pub framed : ℕ → ℕ → List ℕ → List ℕ
framed count kind body = (64 * RTP_VERSION + count) ∷ kind ∷ to_be_bytes w16 (length body / 4) ++ body

unfoldable pub text_of : Rtcp → List ℕ
text_of x = framed (count_of x) (kind_of x) (body_of x)

-- an item of a source: its type is not the zero that ends a list, and the length of its text has 8 bits
abbrev pub SdesItemFits : SdesItem → Type 0
SdesItemFits i = (0 < sdes_number i.kind) × (length i.text ≤ 255)

abbrev pub SdesItemsFit : Sdes → Type 0
SdesItemsFit s = AllByRecursion SdesItemFits s.values

-- the items of each source can be told, the count of SSRCs of a REMB has 8 bits, and that of the packets of
-- transport-wide feedback 16
abbrev pub CountFits : Rtcp → Type 0
CountFits (SourceDescription d) = AllByRecursion SdesItemsFit d.reports
CountFits (Twcc t) = length t.rows < 65536
CountFits (Remb r) = length r.ssrcs ≤ 255
CountFits _ = Unit {0}

-- counts and lengths fit their fields, no item of a source has the type 0, and the body has whole words
pub record IsWritable (x : Rtcp) : Type 0 where
  pub inner : CountFits x
  pub count : count_of x ≤ MAX_REPORTS
  pub size : length (body_of x) < BODY_LIMIT
  pub whole : length (body_of x) % 4 ≡ 0

-- at most 31 items, each of which can be told
abbrev pub IsShortSdes : Sdes → Type 0
IsShortSdes s = (length s.values ≤ MAX_REPORTS) × SdesItemsFit s

-- the counts and lengths of an item alone, and the types of a source's items, from which it follows that it
-- can be written
abbrev pub LengthsFit : Rtcp → Type 0
LengthsFit (SenderReport r) = length r.reports ≤ MAX_REPORTS
LengthsFit (ReceiverReport r) = length r.reports ≤ MAX_REPORTS
LengthsFit (SourceDescription d) = (length d.reports ≤ MAX_REPORTS) × AllByRecursion IsShortSdes d.reports
LengthsFit (Goodbye g) = length g.reports ≤ MAX_REPORTS
LengthsFit (ExtendedReport r) = length (extended_report_body r) < BODY_LIMIT
LengthsFit (Nack n) = length n.reports ≤ MAX_REPORTS
LengthsFit (Pli p) = Unit {0}
LengthsFit (Fir f) = length f.reports ≤ MAX_REPORTS
LengthsFit (Twcc t) = length t.rows < 65536
LengthsFit (Remb r) = length r.ssrcs ≤ 255
LengthsFit (AppSpecificFeedback f) = (length f.payload % 4 ≡ 0) × (length f.payload + 8 < BODY_LIMIT)

-- how many items at the front fit
abbrev pub fitting : ℕ → List Rtcp → ℕ
fitting room [] = 0
fitting room (x ∷ xs) = if nat_le (length (text_of x)) room then suc (fitting (room - length (text_of x)) xs) else 0
