-- Items whose counts and lengths fit can be written.
use Rattle.std.proofs.Common.{◌≡◌, ℕ, ◌+◌, ◌-◌, ◌*◌, ◌%◌, ◌≤◌, List, [], ◌∷◌, ◌++◌, length, take, refl, ◌∙◌, arith, length-append}
use Rattle.std.specs.List.{flat_map, AllByRecursion}
use Rattle.std.specs.Int.{w32, to_be_bytes}
use Rattle.std.proofs.lemmas.List.{length-take}
use Rattle.rtcp_wire.specs.declared.packet.Rtcp.{Rtcp}
use Rattle.rtcp_wire.specs.declared.packet.Rtcp.TheVariants.{SenderReport, ReceiverReport, SourceDescription, Goodbye, ExtendedReport, Nack, Pli, Fir, Twcc, Remb, AppSpecificFeedback}
use Rattle.rtcp_items.specs.declared.source.SdesItem.{SdesItem}
use Rattle.rtcp_items.specs.declared.source.Sdes.{Sdes}
use Rattle.rtcp_items.specs.declared.extended.ReportBlock.{ReportBlock}
use Rattle.rtcp_items.specs.declared.extended.ReportBlock.TheVariants.{Rrtr, Dlrr}
use Rattle.rtcp_wire.specs.Rows.{nack_entry_text, fir_entry_text, report_text}
use Rattle.rtcp_wire.specs.Reports.{sender_report_body, sender_info_text, receiver_report_body, goodbye_body}
use Rattle.rtcp_wire.specs.Feedback.{nack_body, pli_body, fir_body, app_feedback_body}
use Rattle.rtcp_wire.specs.Remb.{remb_body}
use Rattle.rtcp_wire.specs.Extended.{dlrr_item_text, block_text, block_content, extended_report_body}
use Rattle.rtcp_wire.specs.Descriptions.{sdes_item_text, ended, sdes_text, descriptions_body}
use Rattle.twcc_core.specs.Laws.{FeedbackIsWhole}
use Rattle.rtcp_wire.specs.Texts.{IsWritable, LengthsFit, IsShortSdes, SdesItemFits, SdesItemsFit}
use Rattle.rtcp_wire.proofs.ReadBack.{rows_len, report_len, nack_entry_len, fir_entry_len, dlrr_item_len}

items_few : (is : List SdesItem) → AllByRecursion SdesItemFits is → length (flat_map sdes_item_text is) ≤ 257 * length is
unfolding sdes_item_text
items_few [] w = omega arith
items_few (i ∷ is) w = omega (arith, length-append (sdes_item_text i) (flat_map sdes_item_text is), w.0.1, items_few is w.1)

ended_whole : (t : List ℕ) → (length (ended t) % 4 ≡ 0) × (length (ended t) ≤ length t + 4)
ended_whole t =
    let n : ℕ = 4 - length t % 4 in
    let zeros : List ℕ = take n (0 ∷ 0 ∷ 0 ∷ 0 ∷ []) in
    let few : length zeros ≡ n = length-take n (0 ∷ 0 ∷ 0 ∷ 0 ∷ []) ∙ omega arith in
    let len : length (t ++ zeros) ≡ length t + length zeros = length-append t zeros in
    (omega (arith, few, len), omega (arith, few, len))

chunks_whole : (ss : List Sdes) → AllByRecursion IsShortSdes ss → (length (flat_map sdes_text ss) % 4 ≡ 0) × (length (flat_map sdes_text ss) ≤ 7975 * length ss)
unfolding sdes_text
chunks_whole [] w = (refl, omega arith)
chunks_whole (s ∷ ss) w =
    let t : List ℕ = to_be_bytes w32 s.ssrc ++ flat_map sdes_item_text s.values in
    let one = ended_whole t in
    let items = items_few s.values w.0.1 in
    let len : length (flat_map sdes_text (s ∷ ss)) ≡ length (ended t) + length (flat_map sdes_text ss) = length-append (ended t) (flat_map sdes_text ss) in
    let others = chunks_whole ss w.1 in
    (omega (arith, one.0, len, others.0), omega (arith, one.1, items, w.0.0, len, others.1))

chunks_fit : (ss : List Sdes) → AllByRecursion IsShortSdes ss → AllByRecursion SdesItemsFit ss
chunks_fit [] w = tt
chunks_fit (s ∷ ss) w = (w.0.1, chunks_fit ss w.1)

blocks_whole : (bs : List ReportBlock) → length (flat_map block_text bs) % 4 ≡ 0
unfolding block_text block_content
blocks_whole [] = refl
blocks_whole (Rrtr r ∷ bs) = omega (arith, length-append (block_text (Rrtr r)) (flat_map block_text bs), blocks_whole bs)
blocks_whole (Dlrr d ∷ bs) =
    let len = rows_len dlrr_item_text 12 dlrr_item_len d.items in
    omega (arith, len, length-append (block_text (Dlrr d)) (flat_map block_text bs), blocks_whole bs)

pub counted : FeedbackIsWhole → (x : Rtcp) → LengthsFit x → IsWritable x
unfolding sender_report_body sender_info_text receiver_report_body goodbye_body nack_body pli_body fir_body app_feedback_body remb_body extended_report_body descriptions_body
counted twcc (SenderReport r) few =
    let len = rows_len report_text 24 report_len r.reports in
    record { inner = tt; count = few; size = omega (arith, len); whole = omega (arith, len) }
counted twcc (ReceiverReport r) few =
    let len = rows_len report_text 24 report_len r.reports in
    record { inner = tt; count = few; size = omega (arith, len); whole = omega (arith, len) }
counted twcc (SourceDescription d) w =
    let len = chunks_whole d.reports w.1 in
    record { inner = chunks_fit d.reports w.1; count = w.0; size = omega (arith, len.1, w.0); whole = len.0 }
counted twcc (Goodbye g) few =
    let len = rows_len (to_be_bytes w32) 4 (λ n. refl) g.reports in
    record { inner = tt; count = few; size = omega (arith, len); whole = omega (arith, len) }
counted twcc (ExtendedReport r) short = record { inner = tt; count = omega arith; size = short; whole = omega (arith, blocks_whole r.blocks) }
counted twcc (Nack n) few =
    let len = rows_len nack_entry_text 4 nack_entry_len n.reports in
    record { inner = tt; count = omega arith; size = omega (arith, len); whole = omega (arith, len) }
counted twcc (Pli p) w = record { inner = tt; count = omega arith; size = omega arith; whole = refl }
counted twcc (Fir f) few =
    let len = rows_len fir_entry_text 8 fir_entry_len f.reports in
    record { inner = tt; count = omega arith; size = omega (arith, len); whole = omega (arith, len) }
counted twcc (Twcc t) few = record { inner = few; count = omega arith; size = (twcc t few).1; whole = (twcc t few).0 }
counted twcc (Remb r) few =
    let len = rows_len (to_be_bytes w32) 4 (λ n. refl) r.ssrcs in
    record { inner = few; count = omega arith; size = omega (arith, len); whole = omega (arith, len) }
counted twcc (AppSpecificFeedback f) w = record { inner = tt; count = omega arith; size = omega (arith, w.1); whole = omega (arith, w.0) }
