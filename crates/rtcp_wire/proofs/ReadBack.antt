-- What was written is read again.
use Rattle.std.proofs.Common.{◌≡◌, ℕ, zero, suc, ◌+◌, ◌-◌, ◌*◌, ◌/◌, ◌%◌, ◌^◌, ◌<◌, ◌≤◌, Bool, true, false, ltb, leb, List, [], ◌∷◌, ◌++◌, length, take, drop, Option, Some, None, refl, sym, ap, ◌∙◌, append_assoc, arith, length-append}
use Rattle.std.specs.Prelude.{slice_index, map, ℤ, pos, negsuc, min}
use Rattle.std.specs.List.{flat_map, AllByRecursion}
use Rattle.std.specs.Int.{w16, w32, to_be_bytes, from_be_bytes}
use Rattle.std.proofs.lemmas.Bool.{le-ltb, lt-ltb, le-leb}
use Rattle.std.proofs.lemmas.List.{append-nil, take_at, drop_at}
use Rattle.std.proofs.lemmas.Nat.{from_be_bytes-to_be_bytes_2, from_be_bytes-to_be_bytes_4, from_be_bytes-to_be_bytes_8}
use Rattle.rtp_base.specs.Wire.{half_at, word_at}
use Rattle.rtcp_wire.specs.Wire.{rows_of}
use Rattle.rtcp_wire.specs.Frame.{item_len, frame_at}
use Rattle.rtcp_wire.specs.Rows.{nack_entry_at, nack_entry_text, fir_entry_at, fir_entry_text, report_at, report_text}
use Rattle.rtp_base.specs.Fields.{signed24, bits24, IsSigned24}
use Rattle.rtcp_wire.specs.Feedback.{nack_of, nack_body, pli_of, pli_body, fir_of, fir_body, app_feedback_of, app_feedback_body}
use Rattle.media_units.specs.Wallclock.{ntp_of_unix}
use Rattle.rtcp_wire.specs.Remb.{is_remb, remb_of, remb_body, mantissa_of, exponent_of}
use Rattle.rtcp_wire.proofs.Rates.{mantissa_small}
use Rattle.rtcp_wire.proofs.SdesAgain.{descriptions_again}
use Rattle.rtcp_wire.specs.declared.remb.Remb.{Remb as RembItem}
use Rattle.rtcp_items.specs.declared.report.SenderInfo.{SenderInfo}
use Rattle.rtcp_items.specs.declared.report.SenderReport.{SenderReport as SenderItem}
use Rattle.rtcp_wire.specs.Reports.{sender_info_at, sender_info_text, sender_report_of, sender_report_body, receiver_report_of, receiver_report_body, goodbye_of, goodbye_body}
use Rattle.rtcp_wire.specs.Items.{Item, reading_of, transport_feedback_of, payload_feedback_of, application_of, item_or_short, first_of, with_rest, item_at, items_within, items_of}
use Rattle.rtcp_wire.specs.declared.packet.Rtcp.{Rtcp}
use Rattle.rtcp_wire.specs.declared.packet.Rtcp.TheVariants.{SenderReport, ReceiverReport, SourceDescription, Goodbye, ExtendedReport, Nack, Pli, Fir, Twcc, Remb, AppSpecificFeedback}
use Rattle.rtcp_wire.specs.declared.request.Fir.{Fir as FirItem}
use Rattle.rtcp_items.specs.declared.source.Goodbye.{Goodbye as GoodbyeItem}
use Rattle.rtcp_items.specs.declared.report.ReceiverReport.{ReceiverReport as ReceiverItem}
use Rattle.rtcp_wire.specs.declared.feedback.AppSpecificFeedback.{AppSpecificFeedback as AppItem}
use Rattle.rtp_base.specs.declared.nack_entry.NackEntry.{NackEntry}
use Rattle.rtcp_wire.specs.declared.nack.Nack.{Nack as NackItem}
use Rattle.rtcp_wire.specs.declared.request.FirEntry.{FirEntry}
use Rattle.rtcp_wire.specs.declared.request.Pli.{Pli as PliItem}
use Rattle.rtp_base.specs.declared.reception_report.ReceptionReport.{ReceptionReport}
use Rattle.twcc_core.specs.Laws.{FeedbackReadsBack}
use Rattle.rtp_base.specs.ReceptionReport.{IsReceptionReport}
use Rattle.rtcp_wire.specs.Laws.{IsNackEntry, IsFirEntry, IsDlrrItem, IsBlock, IsHeld, held, held_block, held_info, held_rate}
use Rattle.std.specs.Option.{option_map, option_and_then}
use Rattle.rtcp_wire.specs.Extended.{dlrr_item_at, dlrr_item_text, block_of, block_at, block_kind, block_content, block_text, kept, blocks_within, blocks_of, extended_report_of, extended_report_body}
use Rattle.rtcp_items.specs.declared.extended.DlrrItem.{DlrrItem}
use Rattle.rtcp_items.specs.declared.extended.ReportBlock.{ReportBlock}
use Rattle.rtcp_items.specs.declared.extended.ReportBlock.TheVariants.{Rrtr, Dlrr}
use Rattle.rtcp_items.specs.declared.extended.ExtendedReport.{ExtendedReport as ExtendedItem}
use Rattle.rtcp_wire.specs.Texts.{framed, text_of, kind_of, count_of, body_of}

-- rows that were put one after another are read again
rows_again : {T : Type 0} (row : List ℕ → T) (text : T → List ℕ) (size : ℕ) (Whole : T → Type 0) (again : (x : T) (rest : List ℕ) → Whole x → (row (text x ++ rest) ≡ x) × (drop size (text x ++ rest) ≡ rest)) (xs : List T) (rest : List ℕ)
    → AllByRecursion Whole xs → rows_of row size (length xs) (flat_map text xs ++ rest) ≡ xs
rows_again row text size Whole again [] rest whole = refl
rows_again row text size Whole again (x ∷ xs) rest whole =
    let a = again x (flat_map text xs ++ rest) whole.0 in
    let b = rows_again row text size Whole again xs rest whole.1 in
    let e : flat_map text (x ∷ xs) ++ rest ≡ text x ++ (flat_map text xs ++ rest) = append_assoc (text x) (flat_map text xs) rest in
    rw (e, a.0, a.1, b) refl

pub rows_len : {T : Type 0} (text : T → List ℕ) (size : ℕ) (len : (x : T) → length (text x) ≡ size) (xs : List T) → length (flat_map text xs) ≡ length xs * size
rows_len text size len [] = omega arith
rows_len text size len (x ∷ xs) = omega (arith, length-append (text x) (flat_map text xs), len x, rows_len text size len xs)

frame_is : (bytes : List ℕ) (len : ℕ) → slice_index bytes 0 / 64 ≡ 2 → slice_index bytes 0 / 32 % 2 ≡ 0 → item_len bytes ≡ len → 4 ≤ length bytes → len ≤ length bytes
    → frame_at bytes ≡ Some (record { count = slice_index bytes 0 % 32; kind = slice_index bytes 1; body = drop 4 (take len bytes); rest = drop len bytes })
frame_is bytes len version padding il long fits =
    let t1 : ltb (length bytes) 4 ≡ false = le-ltb _ _ long in
    let t3 : ltb (length bytes) len ≡ false = le-ltb _ _ fits in
    rw (version, padding, il, t1, t3) refl

pub frame_again : (count kind : ℕ) (body rest : List ℕ) → count ≤ 31 → length body % 4 ≡ 0 → length body < 2 ^ 18
    → frame_at (framed count kind body ++ rest) ≡ Some (record { count = count; kind = kind; body = body; rest = rest })
frame_again count kind body rest few whole short =
    let bytes : List ℕ = framed count kind body ++ rest in
    let half : half_at bytes 2 ≡ length body / 4 = from_be_bytes-to_be_bytes_2 (length body / 4) (omega arith) in
    let il : item_len bytes ≡ suc (suc (suc (suc (length body)))) = omega (arith, half) in
    let version : (128 + count) / 64 ≡ 2 = omega arith in
    let padding : (128 + count) / 32 % 2 ≡ 0 = omega arith in
    let long : 4 ≤ length bytes = omega arith in
    let fits : suc (suc (suc (suc (length body)))) ≤ length bytes = omega (arith, length-append body rest) in
    let is = frame_is bytes (suc (suc (suc (suc (length body))))) version padding il long fits in
    let c : (128 + count) % 32 ≡ count = omega arith in
    let b : take (length body) (body ++ rest) ≡ body = take_at body rest (length body) refl in
    let r : drop (length body) (body ++ rest) ≡ rest = drop_at body rest (length body) refl in
    is ∙ rw (c, b, r) refl

-- ---- rows

ssrc_again : (x : ℕ) (rest : List ℕ) → x < 2 ^ 32 → (word_at (to_be_bytes w32 x ++ rest) 0 ≡ x) × (drop 4 (to_be_bytes w32 x ++ rest) ≡ rest)
ssrc_again x rest lt = (from_be_bytes-to_be_bytes_4 x lt, refl)

nack_entry_again : (e : NackEntry) (rest : List ℕ) → IsNackEntry e → (nack_entry_at (nack_entry_text e ++ rest) ≡ e) × (drop 4 (nack_entry_text e ++ rest) ≡ rest)
unfolding nack_entry_at nack_entry_text
nack_entry_again e rest whole =
    let make : ℕ → ℕ → NackEntry = λ x y. record { pid = x; blp = y } in
    let a : from_be_bytes w16 (to_be_bytes w16 e.pid) ≡ e.pid = from_be_bytes-to_be_bytes_2 e.pid whole.0 in
    let b : from_be_bytes w16 (to_be_bytes w16 e.blp) ≡ e.blp = from_be_bytes-to_be_bytes_2 e.blp whole.1 in
    (ap (λ (x : ℕ). make x (from_be_bytes w16 (to_be_bytes w16 e.blp))) a ∙ ap (make e.pid) b, refl)

fir_entry_again : (e : FirEntry) (rest : List ℕ) → IsFirEntry e → (fir_entry_at (fir_entry_text e ++ rest) ≡ e) × (drop 8 (fir_entry_text e ++ rest) ≡ rest)
unfolding fir_entry_at fir_entry_text
fir_entry_again e rest whole =
    let make : ℕ → FirEntry = λ x. record { ssrc = x; seq_no = e.seq_no } in
    (ap make (from_be_bytes-to_be_bytes_4 e.ssrc whole), refl)

lost_again : (z : ℤ) → IsSigned24 z → signed24 (bits24 z) ≡ z
lost_again (pos n) whole =
    let e : bits24 (pos n) ≡ n = omega arith in
    ap signed24 e ∙ rw (lt-ltb n 8388608 whole) refl
lost_again (negsuc n) whole =
    let m : ℕ = 16777215 - n in
    let e : bits24 (negsuc n) ≡ 16777215 - n = omega arith in
    let high : ltb (16777215 - n) 8388608 ≡ false = le-ltb _ _ (omega arith) in
    let low : ltb (16777215 - n) 16777216 ≡ true = lt-ltb _ _ (omega arith) in
    let back : 16777216 - suc (16777215 - n) ≡ n = omega arith in
    ap signed24 e ∙ rw (high, low, back) refl

report_again : (r : ReceptionReport) (rest : List ℕ) → IsReceptionReport r → (report_at (report_text r ++ rest) ≡ r) × (drop 24 (report_text r ++ rest) ≡ rest)
unfolding report_at report_text
report_again r rest whole =
    let make : ℕ → ℕ → ℤ → ℕ → ℕ → ℕ → ℕ → ReceptionReport = λ a b c d e f g. record { ssrc = a; fraction_lost = b; packets_lost = c; max_seq = d; jitter = e; last_sr_time = f; last_sr_delay = g } in
    let w : ℕ = r.fraction_lost * 16777216 + bits24 r.packets_lost in
    let small : bits24 r.packets_lost < 16777216 = omega arith in
    let word : from_be_bytes w32 (to_be_bytes w32 w) ≡ w = from_be_bytes-to_be_bytes_4 w (omega (arith, whole.fraction, small)) in
    let b : from_be_bytes w32 (to_be_bytes w32 w) / 16777216 ≡ r.fraction_lost = omega (arith, word, small) in
    let c' : from_be_bytes w32 (to_be_bytes w32 w) % 16777216 ≡ bits24 r.packets_lost = omega (arith, word, small) in
    let c : signed24 (from_be_bytes w32 (to_be_bytes w32 w) % 16777216) ≡ r.packets_lost = ap signed24 c' ∙ lost_again r.packets_lost whole.lost in
    let a = from_be_bytes-to_be_bytes_4 r.ssrc whole.ssrc in
    let d = from_be_bytes-to_be_bytes_4 r.max_seq whole.greatest in
    let e = from_be_bytes-to_be_bytes_4 r.jitter whole.jitter in
    let f = from_be_bytes-to_be_bytes_4 r.last_sr_time whole.last in
    let g = from_be_bytes-to_be_bytes_4 r.last_sr_delay whole.delay in
    let made : report_at (report_text r ++ rest) ≡ make r.ssrc r.fraction_lost r.packets_lost r.max_seq r.jitter r.last_sr_time r.last_sr_delay = rw (a, b, c, d, e, f, g) refl in
    (made, refl)

-- ---- kinds

pli_again : (p : PliItem) → p.sender_ssrc < 2 ^ 32 → p.ssrc < 2 ^ 32 → pli_of (pli_body p) ≡ Some p
unfolding pli_of pli_body
pli_again p s t =
    let make : ℕ → ℕ → Option PliItem = λ x y. Some (record { sender_ssrc = x; ssrc = y }) in
    let a : from_be_bytes w32 (to_be_bytes w32 p.sender_ssrc) ≡ p.sender_ssrc = from_be_bytes-to_be_bytes_4 p.sender_ssrc s in
    let b : from_be_bytes w32 (to_be_bytes w32 p.ssrc) ≡ p.ssrc = from_be_bytes-to_be_bytes_4 p.ssrc t in
    ap (λ (x : ℕ). make x (from_be_bytes w32 (to_be_bytes w32 p.ssrc))) a ∙ ap (make p.sender_ssrc) b

pub nack_entry_len : (e : NackEntry) → length (nack_entry_text e) ≡ 4
unfolding nack_entry_text
nack_entry_len e = refl

nack_is : (body : List ℕ) (k : ℕ) → 8 ≤ length body → length body % 4 ≡ 0 → min ((length body - 8) / 4) 31 ≡ k
    → nack_of body ≡ Some (record { sender_ssrc = word_at body 0; ssrc = word_at body 4; reports = rows_of nack_entry_at 4 k (drop 8 body) })
unfolding nack_of
nack_is body k long even count =
    let t : ltb (length body) 8 ≡ false = le-ltb _ _ long in
    rw (t, even, count) refl

nack_again : (n : NackItem) → n.sender_ssrc < 2 ^ 32 → n.ssrc < 2 ^ 32 → length n.reports ≤ 31 → AllByRecursion IsNackEntry n.reports → nack_of (nack_body n) ≡ Some n
unfolding nack_body
nack_again n s t few rows =
    let len = rows_len nack_entry_text 4 nack_entry_len n.reports in
    let again : rows_of nack_entry_at 4 (length n.reports) (flat_map nack_entry_text n.reports) ≡ n.reports = ap (rows_of nack_entry_at 4 (length n.reports)) (sym (append-nil (flat_map nack_entry_text n.reports))) ∙ rows_again nack_entry_at nack_entry_text 4 IsNackEntry nack_entry_again n.reports [] rows in
    let a : from_be_bytes w32 (to_be_bytes w32 n.sender_ssrc) ≡ n.sender_ssrc = from_be_bytes-to_be_bytes_4 n.sender_ssrc s in
    let b : from_be_bytes w32 (to_be_bytes w32 n.ssrc) ≡ n.ssrc = from_be_bytes-to_be_bytes_4 n.ssrc t in
    nack_is (nack_body n) (length n.reports) (omega arith) (omega (arith, len)) (omega (arith, len)) ∙ rw (a, b, again) refl

pub fir_entry_len : (e : FirEntry) → length (fir_entry_text e) ≡ 8
unfolding fir_entry_text
fir_entry_len e = refl

fir_is : (body : List ℕ) (k : ℕ) → 8 ≤ length body → length body % 8 ≡ 0 → min ((length body - 8) / 8) 31 ≡ k
    → fir_of body ≡ Some (record { sender_ssrc = word_at body 0; reports = rows_of fir_entry_at 8 k (drop 8 body) })
unfolding fir_of
fir_is body k long even count =
    let t : ltb (length body) 8 ≡ false = le-ltb _ _ long in
    rw (t, even, count) refl

fir_again : (f : FirItem) → f.sender_ssrc < 2 ^ 32 → length f.reports ≤ 31 → AllByRecursion IsFirEntry f.reports → fir_of (fir_body f) ≡ Some f
unfolding fir_body
fir_again f s few rows =
    let len = rows_len fir_entry_text 8 fir_entry_len f.reports in
    let again : rows_of fir_entry_at 8 (length f.reports) (flat_map fir_entry_text f.reports) ≡ f.reports = ap (rows_of fir_entry_at 8 (length f.reports)) (sym (append-nil (flat_map fir_entry_text f.reports))) ∙ rows_again fir_entry_at fir_entry_text 8 IsFirEntry fir_entry_again f.reports [] rows in
    let a : from_be_bytes w32 (to_be_bytes w32 f.sender_ssrc) ≡ f.sender_ssrc = from_be_bytes-to_be_bytes_4 f.sender_ssrc s in
    fir_is (fir_body f) (length f.reports) (omega arith) (omega (arith, len)) (omega (arith, len)) ∙ rw (a, again) refl

app_is : (body : List ℕ) → 8 ≤ length body → length body % 4 ≡ 0
    → app_feedback_of body ≡ Some (record { sender_ssrc = word_at body 0; media_ssrc = word_at body 4; payload = drop 8 body })
unfolding app_feedback_of
app_is body long even =
    let t : ltb (length body) 8 ≡ false = le-ltb _ _ long in
    rw (t, even) refl

app_again : (f : AppItem) → f.sender_ssrc < 2 ^ 32 → f.media_ssrc < 2 ^ 32 → length (app_feedback_body f) % 4 ≡ 0 → app_feedback_of (app_feedback_body f) ≡ Some f
unfolding app_feedback_body
app_again f s t even =
    let a : from_be_bytes w32 (to_be_bytes w32 f.sender_ssrc) ≡ f.sender_ssrc = from_be_bytes-to_be_bytes_4 f.sender_ssrc s in
    let b : from_be_bytes w32 (to_be_bytes w32 f.media_ssrc) ≡ f.media_ssrc = from_be_bytes-to_be_bytes_4 f.media_ssrc t in
    app_is (app_feedback_body f) (omega arith) even ∙ rw (a, b) refl

goodbye_is : (count : ℕ) (body : List ℕ) → count * 4 ≤ length body → goodbye_of count body ≡ Some (record { reports = rows_of (λ bytes. word_at bytes 0) 4 count body })
unfolding goodbye_of
goodbye_is count body long =
    let t : ltb (length body) (count * 4) ≡ false = le-ltb _ _ long in
    rw t refl

goodbye_again : (g : GoodbyeItem) → AllByRecursion (λ s. s < 2 ^ 32) g.reports → goodbye_of (length g.reports) (goodbye_body g) ≡ Some g
unfolding goodbye_body
goodbye_again g rows =
    let len = rows_len (to_be_bytes w32) 4 (λ n. refl) g.reports in
    let again : rows_of (λ bytes. word_at bytes 0) 4 (length g.reports) (flat_map (to_be_bytes w32) g.reports) ≡ g.reports = ap (rows_of (λ bytes. word_at bytes 0) 4 (length g.reports)) (sym (append-nil (flat_map (to_be_bytes w32) g.reports))) ∙ rows_again (λ bytes. word_at bytes 0) (to_be_bytes w32) 4 (λ s. s < 2 ^ 32) ssrc_again g.reports [] rows in
    goodbye_is (length g.reports) (goodbye_body g) (omega (arith, len)) ∙ rw again refl

pub report_len : (r : ReceptionReport) → length (report_text r) ≡ 24
unfolding report_text
report_len r = refl

receiver_report_is : (count : ℕ) (body : List ℕ) → 4 + count * 24 ≤ length body → receiver_report_of count body ≡ Some (record { sender_ssrc = word_at body 0; reports = rows_of report_at 24 count (drop 4 body) })
unfolding receiver_report_of
receiver_report_is count body long =
    let t : ltb (length body) (4 + count * 24) ≡ false = le-ltb _ _ long in
    rw t refl

receiver_report_again : (r : ReceiverItem) → r.sender_ssrc < 2 ^ 32 → AllByRecursion IsReceptionReport r.reports → receiver_report_of (length r.reports) (receiver_report_body r) ≡ Some r
unfolding receiver_report_body
receiver_report_again r s rows =
    let len = rows_len report_text 24 report_len r.reports in
    let again : rows_of report_at 24 (length r.reports) (flat_map report_text r.reports) ≡ r.reports = ap (rows_of report_at 24 (length r.reports)) (sym (append-nil (flat_map report_text r.reports))) ∙ rows_again report_at report_text 24 IsReceptionReport report_again r.reports [] rows in
    let a : from_be_bytes w32 (to_be_bytes w32 r.sender_ssrc) ≡ r.sender_ssrc = from_be_bytes-to_be_bytes_4 r.sender_ssrc s in
    receiver_report_is (length r.reports) (receiver_report_body r) (omega (arith, len)) ∙ rw (a, again) refl

-- the count, the mantissa and the exponent of a REMB's word
fields_again : (count e m : ℕ) → count ≤ 255 → e < 64 → m < 262144
    → (from_be_bytes w32 (to_be_bytes w32 (count * 16777216 + e * 262144 + m)) / 16777216 ≡ count)
    × (from_be_bytes w32 (to_be_bytes w32 (count * 16777216 + e * 262144 + m)) % 262144 ≡ m)
    × (from_be_bytes w32 (to_be_bytes w32 (count * 16777216 + e * 262144 + m)) / 262144 % 64 ≡ e)
fields_again count e m few small low =
    let w : from_be_bytes w32 (to_be_bytes w32 (count * 16777216 + e * 262144 + m)) ≡ count * 16777216 + e * 262144 + m = from_be_bytes-to_be_bytes_4 (count * 16777216 + e * 262144 + m) (omega arith) in
    (ap (λ (n : ℕ). n / 16777216) w ∙ omega arith, ap (λ (n : ℕ). n % 262144) w ∙ omega arith, ap (λ (n : ℕ). n / 262144 % 64) w ∙ omega arith)

sender_info_again : (s : SenderInfo) (rest : List ℕ) → s.ssrc < 2 ^ 32 → s.rtp_time < 2 ^ 32 → s.sender_packet_count < 2 ^ 32 → s.sender_octet_count < 2 ^ 32
    → (sender_info_at (sender_info_text s ++ rest) ≡ held_info s) × (drop 24 (sender_info_text s ++ rest) ≡ rest)
unfolding sender_info_at sender_info_text
sender_info_again s rest ssrc time packets octets =
    let ntp : ntp_of_unix s.ntp_time < 2 ^ 64 = omega arith in
    let a = from_be_bytes-to_be_bytes_4 s.ssrc ssrc in
    let b = from_be_bytes-to_be_bytes_8 (ntp_of_unix s.ntp_time) ntp in
    let c = from_be_bytes-to_be_bytes_4 s.rtp_time time in
    let d = from_be_bytes-to_be_bytes_4 s.sender_packet_count packets in
    let e = from_be_bytes-to_be_bytes_4 s.sender_octet_count octets in
    (rw (a, b, c, d, e) refl, refl)

sender_info_len : (s : SenderInfo) → length (sender_info_text s) ≡ 24
unfolding sender_info_text
sender_info_len s = refl

sender_report_is : (count : ℕ) (body : List ℕ) → 24 + count * 24 ≤ length body → sender_report_of count body ≡ Some (record { sender_info = sender_info_at body; reports = rows_of report_at 24 count (drop 24 body) })
unfolding sender_report_of
sender_report_is count body long =
    let t : ltb (length body) (24 + count * 24) ≡ false = le-ltb _ _ long in
    rw t refl

sender_report_again : (r : SenderItem) → r.sender_info.ssrc < 2 ^ 32 → r.sender_info.rtp_time < 2 ^ 32 → r.sender_info.sender_packet_count < 2 ^ 32 → r.sender_info.sender_octet_count < 2 ^ 32 → AllByRecursion IsReceptionReport r.reports
    → sender_report_of (length r.reports) (sender_report_body r) ≡ Some (record { sender_info = held_info r.sender_info; reports = r.reports })
unfolding sender_report_body
sender_report_again r ssrc time packets octets rows =
    let len = rows_len report_text 24 report_len r.reports in
    let again : rows_of report_at 24 (length r.reports) (flat_map report_text r.reports) ≡ r.reports = ap (rows_of report_at 24 (length r.reports)) (sym (append-nil (flat_map report_text r.reports))) ∙ rows_again report_at report_text 24 IsReceptionReport report_again r.reports [] rows in
    let info = sender_info_again r.sender_info (flat_map report_text r.reports) ssrc time packets octets in
    let make : SenderInfo → List ℕ → Option SenderItem = λ s rest. Some (record { sender_info = s; reports = rows_of report_at 24 (length r.reports) rest }) in
    let whole : List ReceptionReport → Option SenderItem = λ xs. Some (record { sender_info = held_info r.sender_info; reports = xs }) in
    sender_report_is (length r.reports) (sender_report_body r) (omega (arith, len, length-append (sender_info_text r.sender_info) (flat_map report_text r.reports), sender_info_len r.sender_info))
    ∙ ap (λ (s : SenderInfo). make s (drop 24 (sender_report_body r))) info.0 ∙ ap (make (held_info r.sender_info)) info.1 ∙ ap whole again

remb_named : (r : RembItem) → is_remb (remb_body r) ≡ true
unfolding remb_body
remb_named r =
    let t : leb 12 (length (remb_body r)) ≡ true = le-leb 12 (length (remb_body r)) (omega arith) in
    rw t refl

remb_is : (body : List ℕ) (count : ℕ) → 16 + count * 4 ≤ length body → word_at body 12 / 16777216 ≡ count
    → remb_of body ≡ Some (record { sender_ssrc = word_at body 0; bitrate = min (word_at body 12 % 262144 * 2 ^ (word_at body 12 / 262144 % 64)) 10000000000; ssrcs = rows_of (λ bytes. word_at bytes 0) 4 count (drop 16 body) })
unfolding remb_of
remb_is body count long e =
    let t : ltb (length body) 16 ≡ false = le-ltb _ _ (omega arith) in
    let u : ltb (length body) (16 + count * 4) ≡ false = le-ltb _ _ long in
    rw (e, t, u) refl

remb_again : (r : RembItem) → length r.ssrcs ≤ 255 → r.sender_ssrc < 2 ^ 32 → r.bitrate < 2 ^ 64 → AllByRecursion (λ s. s < 2 ^ 32) r.ssrcs
    → remb_of (remb_body r) ≡ Some (record { sender_ssrc = r.sender_ssrc; bitrate = held_rate r.bitrate; ssrcs = r.ssrcs })
unfolding remb_body
remb_again r few s rate rows =
    let len = rows_len (to_be_bytes w32) 4 (λ n. refl) r.ssrcs in
    let again : rows_of (λ bytes. word_at bytes 0) 4 (length r.ssrcs) (flat_map (to_be_bytes w32) r.ssrcs) ≡ r.ssrcs = ap (rows_of (λ bytes. word_at bytes 0) 4 (length r.ssrcs)) (sym (append-nil (flat_map (to_be_bytes w32) r.ssrcs))) ∙ rows_again (λ bytes. word_at bytes 0) (to_be_bytes w32) 4 (λ s. s < 2 ^ 32) ssrc_again r.ssrcs [] rows in
    let small : mantissa_of r.bitrate < 262144 = mantissa_small r.bitrate rate in
    let e : exponent_of r.bitrate < 64 = omega arith in
    let w : ℕ = length r.ssrcs * 16777216 + exponent_of r.bitrate * 262144 + mantissa_of r.bitrate in
    let word = fields_again (length r.ssrcs) (exponent_of r.bitrate) (mantissa_of r.bitrate) few e small in
    let a : from_be_bytes w32 (to_be_bytes w32 r.sender_ssrc) ≡ r.sender_ssrc = from_be_bytes-to_be_bytes_4 r.sender_ssrc s in
    let make : ℕ → ℕ → ℕ → List ℕ → Option RembItem = λ x m k y. Some (record { sender_ssrc = x; bitrate = min (m * 2 ^ k) 10000000000; ssrcs = y }) in
    remb_is (remb_body r) (length r.ssrcs) (omega (arith, len)) word.0
    ∙ ap (λ (x : ℕ). make x (word_at (remb_body r) 12 % 262144) (word_at (remb_body r) 12 / 262144 % 64) (rows_of (λ bytes. word_at bytes 0) 4 (length r.ssrcs) (flat_map (to_be_bytes w32) r.ssrcs))) a
    ∙ ap (λ (m : ℕ). make r.sender_ssrc m (word_at (remb_body r) 12 / 262144 % 64) (rows_of (λ bytes. word_at bytes 0) 4 (length r.ssrcs) (flat_map (to_be_bytes w32) r.ssrcs))) word.1
    ∙ ap (λ (k : ℕ). make r.sender_ssrc (mantissa_of r.bitrate) k (rows_of (λ bytes. word_at bytes 0) 4 (length r.ssrcs) (flat_map (to_be_bytes w32) r.ssrcs))) word.2
    ∙ ap (make r.sender_ssrc (mantissa_of r.bitrate) (exponent_of r.bitrate)) again

abbrev made_report : ℕ → List ReportBlock → ExtendedItem
made_report s bs = record { ssrc = s; blocks = bs }

-- a written block has bytes
some_block : (n room : ℕ) (b : ReportBlock) (rest : List ℕ)
    → blocks_within (suc n) (suc room) (block_text b ++ rest) ≡ option_and_then (λ x. option_map (λ later. x.0 ++ later) (blocks_within n (suc room - length x.0) x.1)) (block_at (block_text b ++ rest))
unfolding block_text
some_block n room b rest = refl

block_len : (b : ReportBlock) → 4 ≤ length (block_text b)
unfolding block_text
block_len b = omega arith

dlrr_item_again : (i : DlrrItem) (rest : List ℕ) → IsDlrrItem i → (dlrr_item_at (dlrr_item_text i ++ rest) ≡ i) × (drop 12 (dlrr_item_text i ++ rest) ≡ rest)
unfolding dlrr_item_at dlrr_item_text
dlrr_item_again i rest whole =
    let a = from_be_bytes-to_be_bytes_4 i.ssrc whole.0 in
    let b = from_be_bytes-to_be_bytes_4 i.last_rr_time whole.1 in
    let c = from_be_bytes-to_be_bytes_4 i.last_rr_delay whole.2 in
    (rw (a, b, c) refl, refl)

pub dlrr_item_len : (i : DlrrItem) → length (dlrr_item_text i) ≡ 12
unfolding dlrr_item_text
dlrr_item_len i = refl

content_again : (b : ReportBlock) → IsBlock b → block_of (block_kind b) (block_content b) ≡ Some (held_block b ∷ [])
unfolding block_of block_content
content_again (Rrtr r) whole =
    let ntp : ntp_of_unix r.ntp_time < 2 ^ 64 = omega arith in
    rw (from_be_bytes-to_be_bytes_8 (ntp_of_unix r.ntp_time) ntp) refl
content_again (Dlrr d) whole =
    let len = rows_len dlrr_item_text 12 dlrr_item_len d.items in
    let count : length (flat_map dlrr_item_text d.items) / 12 ≡ length d.items = omega (arith, len) in
    let again : rows_of dlrr_item_at 12 (length d.items) (flat_map dlrr_item_text d.items) ≡ d.items = ap (rows_of dlrr_item_at 12 (length d.items)) (sym (append-nil (flat_map dlrr_item_text d.items))) ∙ rows_again dlrr_item_at dlrr_item_text 12 IsDlrrItem dlrr_item_again d.items [] whole.1 in
    rw (count, again) refl

content_whole : (b : ReportBlock) → IsBlock b → (length (block_content b) % 4 ≡ 0) × (length (block_content b) < 2 ^ 18)
unfolding block_content
content_whole (Rrtr r) whole = (refl, omega arith)
content_whole (Dlrr d) whole =
    let len = rows_len dlrr_item_text 12 dlrr_item_len d.items in
    (omega (arith, len), omega (arith, len, whole.0))

block_is : (bytes : List ℕ) (len : ℕ) → item_len bytes ≡ len → 4 ≤ length bytes → len ≤ length bytes
    → block_at bytes ≡ option_map (λ blocks. kept blocks (drop len bytes)) (block_of (slice_index bytes 0) (drop 4 (take len bytes)))
unfolding block_at
block_is bytes len il long fits =
    let t1 : ltb (length bytes) 4 ≡ false = le-ltb _ _ long in
    let t3 : ltb (length bytes) len ≡ false = le-ltb _ _ fits in
    rw (il, t1, t3) refl

block_again : (b : ReportBlock) (rest : List ℕ) → IsBlock b → block_at (block_text b ++ rest) ≡ Some (kept (held_block b ∷ []) rest)
unfolding block_text
block_again b rest w =
    let content : List ℕ = block_content b in
    let bytes : List ℕ = block_text b ++ rest in
    let whole = content_whole b w in
    let half : half_at bytes 2 ≡ length content / 4 = from_be_bytes-to_be_bytes_2 (length content / 4) (omega (arith, whole.1)) in
    let il : item_len bytes ≡ suc (suc (suc (suc (length content)))) = omega (arith, half, whole.0) in
    let long : 4 ≤ length bytes = omega arith in
    let fits : suc (suc (suc (suc (length content)))) ≤ length bytes = omega (arith, length-append content rest) in
    let front : take (length content) (content ++ rest) ≡ content = take_at content rest (length content) refl in
    let back : drop (length content) (content ++ rest) ≡ rest = drop_at content rest (length content) refl in
    let shape : List ℕ → List ℕ → Option (List ReportBlock × List ℕ) = λ x y. option_map (λ blocks. kept blocks y) (block_of (block_kind b) x) in
    block_is bytes (suc (suc (suc (suc (length content))))) il long fits
    ∙ ap (λ (x : List ℕ). shape x (drop (length content) (content ++ rest))) front ∙ ap (shape content) back
    ∙ ap (option_map (λ blocks. kept blocks rest)) (content_again b w)

blocks_again : (n room : ℕ) (bs : List ReportBlock) → length (flat_map block_text bs) ≤ n → AllByRecursion IsBlock bs → blocks_within n room (flat_map block_text bs) ≡ Some (map held_block (take room bs))
blocks_again zero zero bs le w = refl
blocks_again zero (suc room) [] le w = refl
blocks_again zero (suc room) (b ∷ bs) le w = absurd (omega (arith, length-append (block_text b) (flat_map block_text bs), block_len b))
blocks_again (suc n) zero bs le w = refl
blocks_again (suc n) (suc room) [] le w = refl
blocks_again (suc n) (suc room) (b ∷ bs) le w =
    let one = block_again b (flat_map block_text bs) w.0 in
    let others = blocks_again n room bs (omega (arith, length-append (block_text b) (flat_map block_text bs), block_len b)) w.1 in
    let left : suc room - 1 ≡ room = omega arith in
    some_block n room b (flat_map block_text bs) ∙ rw (one, left, others) refl

extended_report_is : (body : List ℕ) → 4 ≤ length body → extended_report_of body ≡ option_map (λ blocks. made_report (word_at body 0) blocks) (blocks_of (drop 4 body))
unfolding extended_report_of
extended_report_is body long =
    let t : ltb (length body) 4 ≡ false = le-ltb _ _ long in
    rw t refl

extended_report_again : (r : ExtendedItem) → r.ssrc < 2 ^ 32 → AllByRecursion IsBlock r.blocks → extended_report_of (extended_report_body r) ≡ Some (made_report r.ssrc (map held_block (take 31 r.blocks)))
unfolding extended_report_body blocks_of
extended_report_again r s w =
    let a : from_be_bytes w32 (to_be_bytes w32 r.ssrc) ≡ r.ssrc = from_be_bytes-to_be_bytes_4 r.ssrc s in
    extended_report_is (extended_report_body r) (omega arith)
    ∙ ap (option_map (λ blocks. made_report (word_at (extended_report_body r) 0) blocks)) (blocks_again (length (flat_map block_text r.blocks)) 31 r.blocks (omega arith) w)
    ∙ ap (λ (x : ℕ). Some (made_report x (map held_block (take 31 r.blocks)))) a

-- ---- items

reading_again : FeedbackReadsBack → (x : Rtcp) → IsHeld x → reading_of (kind_of x) (count_of x) (body_of x) ≡ Item (held x)
unfolding reading_of transport_feedback_of payload_feedback_of
reading_again twcc (ReceiverReport r) w = ap (item_or_short ReceiverReport) (receiver_report_again r w.fields.0 w.fields.1)
reading_again twcc (SourceDescription d) w = ap (item_or_short SourceDescription) (descriptions_again d w.writable.inner w.fields)
reading_again twcc (Goodbye g) w = ap (item_or_short Goodbye) (goodbye_again g w.fields)
reading_again twcc (Nack n) w = ap (item_or_short Nack) (nack_again n w.fields.0 w.fields.1 w.fields.2 w.fields.3)
reading_again twcc (Pli p) w = ap (item_or_short Pli) (pli_again p w.fields.0 w.fields.1)
reading_again twcc (Fir f) w = ap (item_or_short Fir) (fir_again f w.fields.0 w.fields.1 w.fields.2)
reading_again twcc (Twcc t) w = ap (item_or_short Twcc) (twcc t w.fields)
reading_again twcc (AppSpecificFeedback f) w = ap (λ (b : Bool). application_of b (app_feedback_body f)) w.fields.2 ∙ ap (item_or_short AppSpecificFeedback) (app_again f w.fields.0 w.fields.1 w.writable.whole)
reading_again twcc (SenderReport r) w = ap (item_or_short SenderReport) (sender_report_again r w.fields.0 w.fields.1 w.fields.2 w.fields.3 w.fields.4)
reading_again twcc (ExtendedReport r) w = ap (item_or_short ExtendedReport) (extended_report_again r w.fields.0 w.fields.1)
reading_again twcc (Remb r) w = ap (λ (b : Bool). application_of b (remb_body r)) (remb_named r) ∙ ap (item_or_short Remb) (remb_again r w.writable.inner w.fields.0 w.fields.1 w.fields.2)

item_again : FeedbackReadsBack → (x : Rtcp) (rest : List ℕ) → IsHeld x → item_at (text_of x ++ rest) ≡ Some (held x ∷ [], rest)
unfolding item_at text_of
item_again twcc x rest w =
    ap first_of (frame_again (count_of x) (kind_of x) (body_of x) rest w.writable.count w.writable.whole w.writable.size) ∙ ap (with_rest rest) (reading_again twcc x w)

none_at : item_at [] ≡ None
unfolding item_at
none_at = refl

within_again : FeedbackReadsBack → (n : ℕ) (xs : List Rtcp) → length xs ≤ n → AllByRecursion IsHeld xs → items_within n (flat_map text_of xs) ≡ map held xs
within_again twcc zero [] le w = refl
within_again twcc zero (x ∷ xs) le w = absurd (omega arith)
within_again twcc (suc n) [] le w = rw none_at refl
within_again twcc (suc n) (x ∷ xs) le w =
    let one = item_again twcc x (flat_map text_of xs) w.0 in
    let others = within_again twcc n xs (omega arith) w.1 in
    rw (one, others) refl

text_len : (x : Rtcp) → 4 ≤ length (text_of x)
unfolding text_of
text_len x = omega arith

texts_len : (xs : List Rtcp) → length xs * 4 ≤ length (flat_map text_of xs)
texts_len [] = omega arith
texts_len (x ∷ xs) = omega (arith, length-append (text_of x) (flat_map text_of xs), text_len x, texts_len xs)

pub items_again : FeedbackReadsBack → (xs : List Rtcp) → AllByRecursion IsHeld xs → items_of (flat_map text_of xs) ≡ map held xs
unfolding items_of
items_again twcc xs w = within_again twcc (length (flat_map text_of xs) / 4) xs (omega (arith, texts_len xs)) w
