-- Items that a session queues fit a compound of their own.
use Rattle.std.proofs.Common.{◌≡◌, ◌+◌, ◌-◌, ◌*◌, ◌≤◌, refl, ap, sym, subst, ◌∙◌, ◌%◌, ℕ, List, [], ◌∷◌, ◌++◌, length, take, arith}
use Rattle.std.specs.Int.{w32, to_be_bytes}
use Rattle.std.specs.List.{AllByRecursion, flat_map}
use Rattle.std.proofs.lemmas.List.{length-append, length-take}
use Rattle.rtp_base.specs.declared.nack_entry.NackEntry.{NackEntry}
use Rattle.rtp_base.specs.declared.reception_report.ReceptionReport.{ReceptionReport}
use Rattle.rtp_base.specs.Wire.{words}
use Rattle.rtcp_items.specs.declared.extended.DlrrItem.{DlrrItem}
use Rattle.rtcp_items.specs.declared.extended.ExtendedReport.{ExtendedReport as Extended}
use Rattle.rtcp_items.specs.declared.extended.ReportBlock.{ReportBlock}
use Rattle.rtcp_items.specs.declared.extended.ReportBlock.TheVariants.{Rrtr, Dlrr}
use Rattle.rtcp_wire.specs.declared.feedback.AppSpecificFeedback.{AppSpecificFeedback as Application}
use Rattle.rtcp_wire.specs.declared.nack.Nack.{Nack as Asks}
use Rattle.rtcp_wire.specs.declared.packet.Rtcp.{Rtcp}
use Rattle.rtcp_wire.specs.declared.packet.Rtcp.TheVariants.{SenderReport, ReceiverReport, SourceDescription, Goodbye, ExtendedReport, Nack, Pli, Fir, Twcc, Remb, AppSpecificFeedback}
use Rattle.rtcp_wire.specs.declared.remb.Remb.{Remb as Rate}
use Rattle.rtcp_items.specs.declared.report.ReceiverReport.{ReceiverReport as Received}
use Rattle.rtcp_items.specs.declared.report.SenderReport.{SenderReport as Sent}
use Rattle.rtcp_wire.specs.declared.request.Fir.{Fir as Intra}
use Rattle.rtcp_wire.specs.declared.request.FirEntry.{FirEntry}
use Rattle.rtcp_wire.specs.declared.request.Pli.{Pli as Lost}
use Rattle.rtcp_items.specs.declared.source.Descriptions.{Descriptions}
use Rattle.rtcp_items.specs.declared.source.SdesType.TheVariants.{CNAME}
use Rattle.rtcp_wire.specs.Descriptions.{ended, sdes_item_text, sdes_text, descriptions_body}
use Rattle.rtcp_wire.specs.Extended.{block_content, block_text, dlrr_item_text, extended_report_body}
use Rattle.rtcp_wire.specs.Feedback.{app_feedback_body, nack_body, pli_body, fir_body}
use Rattle.rtcp_wire.specs.Laws.{ItemsFitByLengths}
use Rattle.rtcp_wire.specs.Remb.{remb_body}
use Rattle.rtcp_wire.specs.Reports.{receiver_report_body, sender_info_text, sender_report_body}
use Rattle.rtcp_wire.specs.Rows.{nack_entry_text, fir_entry_text, report_text}
use Rattle.rtcp_wire.specs.Texts.{text_of}
use Rattle.report_core.specs.Sender.{name_of}
use Rattle.stream_core.specs.Reporting.{IsBrief, IsBriefBlock, AreBriefBlocks}
use Rattle.session_core.specs.Feedback.{FitsAlone}

pub all_append : {X : Type 0} (P : X → Type 0) (xs ys : List X) → AllByRecursion P xs → AllByRecursion P ys → AllByRecursion P (xs ++ ys)
all_append P [] ys h k = k
all_append P (x ∷ xs) ys h k = (h.0, all_append P xs ys h.1 k)

-- the header, two SSRCs and the words
application_length : (f : Application) → length (text_of (AppSpecificFeedback f)) ≡ 12 + length f.payload
unfolding text_of app_feedback_body
application_length f = omega arith

-- feedback of an application
pub application_fits : (f : Application) → ItemsFitByLengths → length f.payload % 4 ≡ 0 → length f.payload ≤ 800 → FitsAlone (AppSpecificFeedback f)
application_fits f fits whole few =
    let long = application_length f in
    record {
      writable = fits (AppSpecificFeedback f) (whole, omega arith);
      long = omega arith;
      few = omega arith;
    }

pub one_more_fits : (xs : List Rtcp) (x : Rtcp) → AllByRecursion FitsAlone xs → FitsAlone x → AllByRecursion FitsAlone (xs ++ x ∷ [])
one_more_fits xs x h f = all_append FitsAlone xs (x ∷ []) h (f, tt)

-- an entry has four bytes
entries_length : (es : List NackEntry) → length (flat_map nack_entry_text es) ≡ 4 * length es
unfolding nack_entry_text
entries_length [] = refl
entries_length (e ∷ es) =
    let rest = entries_length es in
    length-append (nack_entry_text e) (flat_map nack_entry_text es) ∙ (omega arith)

nack_length : (n : Asks) → length (text_of (Nack n)) ≡ 12 + 4 * length n.reports
unfolding text_of nack_body
nack_length n = let rest = entries_length n.reports in omega arith

-- the header and two SSRCs
lost_length : (p : Lost) → length (text_of (Pli p)) ≡ 12
unfolding text_of pli_body
lost_length p = omega arith

-- an entry of a full intra request has eight bytes
intras_length : (es : List FirEntry) → length (flat_map fir_entry_text es) ≡ 8 * length es
unfolding fir_entry_text
intras_length [] = refl
intras_length (e ∷ es) =
    let rest = intras_length es in
    length-append (fir_entry_text e) (flat_map fir_entry_text es) ∙ (omega arith)

intra_length : (f : Intra) → length (text_of (Fir f)) ≡ 12 + 8 * length f.reports
unfolding text_of fir_body
intra_length f = let rest = intras_length f.reports in omega arith

-- each SSRC under a rate has four bytes
ssrcs_length : (xs : List ℕ) → length (words xs) ≡ 4 * length xs
ssrcs_length [] = refl
ssrcs_length (x ∷ xs) =
    let rest = ssrcs_length xs in
    length-append (to_be_bytes w32 x) (words xs) ∙ (omega arith)

rate_length : (r : Rate) → length (text_of (Remb r)) ≡ 20 + 4 * length r.ssrcs
unfolding text_of remb_body
rate_length r = let rest = ssrcs_length r.ssrcs in omega arith

-- a reception block has 24 bytes
blocks_length : (rs : List ReceptionReport) → length (flat_map report_text rs) ≡ 24 * length rs
unfolding report_text
blocks_length [] = refl
blocks_length (r ∷ rs) =
    let rest = blocks_length rs in
    length-append (report_text r) (flat_map report_text rs) ∙ (omega arith)

received_length : (r : Received) → length (text_of (ReceiverReport r)) ≡ 8 + 24 * length r.reports
unfolding text_of receiver_report_body
received_length r = let rest = blocks_length r.reports in omega arith

sent_length : (r : Sent) → length (text_of (SenderReport r)) ≡ 28 + 24 * length r.reports
unfolding text_of sender_report_body sender_info_text
sent_length r = let rest = blocks_length r.reports in omega arith

-- an answer has 12 bytes
answers_length : (is : List DlrrItem) → length (flat_map dlrr_item_text is) ≡ 12 * length is
unfolding dlrr_item_text
answers_length [] = refl
answers_length (i ∷ is) =
    let rest = answers_length is in
    length-append (dlrr_item_text i) (flat_map dlrr_item_text is) ∙ (omega arith)

-- a block that is brief
block_length : (b : ReportBlock) → IsBriefBlock b → length (block_text b) ≤ 604
unfolding block_text block_content
block_length (Rrtr m) brief = omega arith
block_length (Dlrr d) brief = let rest = answers_length d.items in omega arith

extended_body_length : (ssrc : ℕ) (b : ReportBlock) → length (extended_report_body (record { ssrc = ssrc; blocks = b ∷ [] })) ≡ 4 + length (block_text b)
unfolding extended_report_body
extended_body_length ssrc b = let rest = length-append (block_text b) [] in omega arith

extended_length : (x : Extended) → length (text_of (ExtendedReport x)) ≡ 4 + length (extended_report_body x)
unfolding text_of
extended_length x = omega arith

-- a zero, and more of them to a whole word
padded_length : (t : List ℕ) → length (ended t) ≤ length t + 4
padded_length t =
    let n : ℕ = 4 - length t % 4 in
    let zeros : List ℕ = take n (0 ∷ 0 ∷ 0 ∷ 0 ∷ []) in
    let few : length zeros ≡ n = length-take n (0 ∷ 0 ∷ 0 ∷ 0 ∷ []) ∙ omega arith in
    let len : length (t ++ zeros) ≡ length t + length zeros = length-append t zeros in
    omega (arith, few, len)

padded_long : (t : List ℕ) → length t ≤ length (ended t)
padded_long t =
    let zeros : List ℕ = take (4 - length t % 4) (0 ∷ 0 ∷ 0 ∷ 0 ∷ []) in
    let len : length (t ++ zeros) ≡ length t + length zeros = length-append t zeros in
    omega (arith, len)

-- the SSRC of a source and its name, before zeros stand behind them
named : ℕ → List ℕ → List ℕ
named ssrc cname = to_be_bytes w32 ssrc ++ flat_map sdes_item_text ((record { kind = CNAME; text = cname }) ∷ [])

named_length : (ssrc : ℕ) (cname : List ℕ) → length (named ssrc cname) ≡ 6 + length cname
unfolding named sdes_item_text
named_length ssrc cname = let rest = length-append cname [] in omega arith

name_length : (ssrc : ℕ) (cname : List ℕ) → length (text_of (SourceDescription (name_of ssrc cname))) ≡ 4 + length (ended (named ssrc cname))
unfolding text_of descriptions_body sdes_text named
name_length ssrc cname = let rest = length-append (ended (named ssrc cname)) [] in omega arith

name_fits : (ssrc : ℕ) (cname : List ℕ) → ItemsFitByLengths → length cname ≤ 255 → FitsAlone (SourceDescription (name_of ssrc cname))
name_fits ssrc cname fits short =
    let text = named_length ssrc cname in
    let all = name_length ssrc cname in
    let least = padded_long (named ssrc cname) in
    let most = padded_length (named ssrc cname) in
    record {
      writable = fits (SourceDescription (name_of ssrc cname)) (omega arith, ((omega arith, ((omega arith, short), tt)), tt));
      long = omega arith;
      few = omega arith;
    }

one_block_fits : (ssrc : ℕ) (b : ReportBlock) → ItemsFitByLengths → IsBriefBlock b → FitsAlone (ExtendedReport (record { ssrc = ssrc; blocks = b ∷ [] }))
one_block_fits ssrc b fits brief =
    let x : Extended = record { ssrc = ssrc; blocks = b ∷ [] } in
    let block = block_length b brief in
    let body = extended_body_length ssrc b in
    let all = extended_length x in
    record {
      writable = fits (ExtendedReport x) (omega arith);
      long = omega arith;
      few = omega arith;
    }

extended_fits : (ssrc : ℕ) (bs : List ReportBlock) → ItemsFitByLengths → AreBriefBlocks bs → FitsAlone (ExtendedReport (record { ssrc = ssrc; blocks = bs }))
extended_fits ssrc [] fits brief = absurd brief
extended_fits ssrc (b ∷ []) fits brief = one_block_fits ssrc b fits brief
extended_fits ssrc (b ∷ c ∷ rest) fits brief = absurd brief

-- an item that is brief
pub brief_fits : (x : Rtcp) → ItemsFitByLengths → IsBrief x → FitsAlone x
brief_fits (Nack n) fits short =
    let long = nack_length n in
    record {
      writable = fits (Nack n) (omega arith);
      long = omega arith;
      few = omega arith;
    }
brief_fits (SenderReport r) fits none =
    let long = sent_length r in
    let zero : length r.reports ≡ 0 = ap length none in
    record {
      writable = fits (SenderReport r) (omega arith);
      long = omega arith;
      few = omega arith;
    }
brief_fits (ReceiverReport r) fits short =
    let long = received_length r in
    record {
      writable = fits (ReceiverReport r) (omega arith);
      long = omega arith;
      few = omega arith;
    }
brief_fits (SourceDescription d) fits brief = subst (λ (n : Descriptions). FitsAlone (SourceDescription n)) (sym brief.3) (name_fits brief.0 brief.1 fits brief.2)
brief_fits (ExtendedReport x) fits brief = extended_fits x.ssrc x.blocks fits brief
brief_fits (Pli p) fits short =
    let long = lost_length p in
    record {
      writable = fits (Pli p) tt;
      long = omega arith;
      few = omega arith;
    }
brief_fits (Fir f) fits short =
    let long = intra_length f in
    record {
      writable = fits (Fir f) (omega arith);
      long = omega arith;
      few = omega arith;
    }
brief_fits (Remb r) fits short =
    let long = rate_length r in
    record {
      writable = fits (Remb r) (omega arith);
      long = omega arith;
      few = omega arith;
    }
brief_fits (Goodbye g) fits short = absurd short
brief_fits (Twcc t) fits short = absurd short
brief_fits (AppSpecificFeedback f) fits short = absurd short

-- several of them
pub briefs_fit : (xs : List Rtcp) → ItemsFitByLengths → AllByRecursion IsBrief xs → AllByRecursion FitsAlone xs
briefs_fit [] fits h = tt
briefs_fit (x ∷ xs) fits h = (brief_fits x fits h.0, briefs_fit xs fits h.1)

-- behind others that fit
pub more_fit : (xs ys : List Rtcp) → ItemsFitByLengths → AllByRecursion FitsAlone xs → AllByRecursion IsBrief ys → AllByRecursion FitsAlone (xs ++ ys)
more_fit xs ys fits h k = all_append FitsAlone xs ys h (briefs_fit ys fits k)
