-- The items that a datagram holds (RFC 3550 section 6.1, RFC 5506).
use Rattle.std.specs.Prelude.{ℕ, Bool, true, false, zero, suc, ◌/◌, ◌==◌, List, [], ◌∷◌, ◌++◌, length, Option, Some, None, if◌then◌else◌}
use Rattle.std.specs.Option.{option_map, option_map_or}
use Rattle.rtcp_wire.specs.declared.packet.Rtcp.{Rtcp}
use Rattle.rtcp_wire.specs.declared.packet.Rtcp.TheVariants.{SenderReport, ReceiverReport, SourceDescription, Goodbye, ExtendedReport, Nack, Pli, Fir, Twcc, Remb, AppSpecificFeedback}
use Rattle.rtcp_wire.specs.declared.packet.TheConstants.{SENDER_REPORT_TYPE, RECEIVER_REPORT_TYPE, SOURCE_DESCRIPTION_TYPE, GOODBYE_TYPE, TRANSPORT_FEEDBACK_TYPE, PAYLOAD_FEEDBACK_TYPE, EXTENDED_REPORT_TYPE, NACK_FORMAT, TWCC_FORMAT, PLI_FORMAT, FIR_FORMAT, APPLICATION_FORMAT}
use Rattle.rtcp_wire.specs.Frame.{Frame, frame_at}
use Rattle.rtcp_wire.specs.Reports.{sender_report_of, receiver_report_of, goodbye_of}
use Rattle.rtcp_wire.specs.Descriptions.{descriptions_of}
use Rattle.rtcp_wire.specs.Remb.{is_remb, remb_of}
use Rattle.rtcp_wire.specs.Extended.{extended_report_of}
use Rattle.rtcp_wire.specs.Feedback.{nack_of, pli_of, fir_of, app_feedback_of}
use Rattle.twcc_core.specs.Feedback.{twcc_of}

-- what an item in bytes says
pub data Reading : Type 0 where
  Item : Rtcp → Reading
  PassedOver : Reading
  TooShort : Reading

-- whether reading goes on behind it, and the items that it adds
abbrev pub goes_on : Reading → Bool
goes_on (Item x) = true
goes_on PassedOver = true
goes_on TooShort = false

abbrev pub said : Reading → List Rtcp
said (Item x) = x ∷ []
said PassedOver = []
said TooShort = []

-- an item, unless its bytes are too short for its fields
abbrev pub reading_or_short : Option Rtcp → Reading
reading_or_short None = TooShort
reading_or_short (Some x) = Item x

abbrev pub item_or_short : {A : Type 0} → (A → Rtcp) → Option A → Reading
item_or_short kind o = reading_or_short (option_map kind o)

-- transport layer feedback, by its format (RFC 4585 section 6.2,
-- draft-holmer-rmcat-transport-wide-cc-extensions-01 section 3.1)
unfoldable pub transport_feedback_of : ℕ → List ℕ → Reading
transport_feedback_of format body =
    if format == NACK_FORMAT then item_or_short Nack (nack_of body)
    else (if format == TWCC_FORMAT then item_or_short Twcc (twcc_of body)
    else PassedOver)

-- application feedback, which is a REMB where its words begin with that name
abbrev pub application_of : Bool → List ℕ → Reading
application_of true body = item_or_short Remb (remb_of body)
application_of false body = item_or_short AppSpecificFeedback (app_feedback_of body)

-- payload specific feedback, by its format (RFC 4585 section 6.3)
unfoldable pub payload_feedback_of : ℕ → List ℕ → Reading
payload_feedback_of format body =
    if format == PLI_FORMAT then item_or_short Pli (pli_of body)
    else (if format == FIR_FORMAT then item_or_short Fir (fir_of body)
    else (if format == APPLICATION_FORMAT then application_of (is_remb body) body
    else PassedOver))

-- what an item says, by its type (RFC 3550 section 12.1): unknown types and formats are passed over
unfoldable pub reading_of : ℕ → ℕ → List ℕ → Reading
reading_of kind count body =
    if kind == SENDER_REPORT_TYPE then item_or_short SenderReport (sender_report_of count body)
    else (if kind == RECEIVER_REPORT_TYPE then item_or_short ReceiverReport (receiver_report_of count body)
    else (if kind == SOURCE_DESCRIPTION_TYPE then item_or_short SourceDescription (descriptions_of count body)
    else (if kind == GOODBYE_TYPE then item_or_short Goodbye (goodbye_of count body)
    else (if kind == TRANSPORT_FEEDBACK_TYPE then transport_feedback_of count body
    else (if kind == PAYLOAD_FEEDBACK_TYPE then payload_feedback_of count body
    else (if kind == EXTENDED_REPORT_TYPE then item_or_short ExtendedReport (extended_report_of body)
    else PassedOver))))))

-- what an item adds, and what follows it; reading stops at an item that is too short for its fields
abbrev pub with_rest : List ℕ → Reading → Option (List Rtcp × List ℕ)
with_rest rest (Item x) = Some (x ∷ [], rest)
with_rest rest PassedOver = Some ([], rest)
with_rest rest TooShort = None

abbrev pub first_of : Option Frame → Option (List Rtcp × List ℕ)
first_of None = None
first_of (Some f) = with_rest f.rest (reading_of f.kind f.count f.body)

-- what the item at the front adds, and what follows it, or nothing where reading stops
unfoldable pub item_at : List ℕ → Option (List Rtcp × List ℕ)
item_at bytes = first_of (frame_at bytes)

abbrev pub added_of : Option (List Rtcp × List ℕ) → List Rtcp
added_of None = []
added_of (Some x) = x.0

abbrev pub rest_of : Option (List Rtcp × List ℕ) → Option (List ℕ)
rest_of None = None
rest_of (Some x) = Some x.1

-- the items at the front, at most n
abbrev pub items_within : ℕ → List ℕ → List Rtcp
items_within zero bytes = []
items_within (suc n) bytes = option_map_or (λ x. x.0 ++ items_within n x.1) (item_at bytes) []

-- the items of a datagram; each takes a word at least
unfoldable pub items_of : List ℕ → List Rtcp
items_of bytes = items_within (length bytes / 4) bytes
