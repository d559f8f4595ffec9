-- Each item that a tick queues is brief.
use Rattle.std.proofs.Common.{◌≡◌, ◌≤◌, ℕ, refl, Bool, true, false, List, [], ◌∷◌, ◌++◌, length, take, Option, Some, None, arith}
use Rattle.std.specs.Prelude.{nat_le, nat_lt, ◌&&◌, if◌then◌else◌, map}
use Rattle.std.specs.List.{AllByRecursion}
use Rattle.std.specs.Option.{option_to_list}
use Rattle.std.proofs.lemmas.Bool.{leb-true}
use Rattle.std.proofs.lemmas.List.{length-map, length-take}
use Rattle.media_units.specs.declared.wallclock.Beginning.{Beginning}
use Rattle.rtp_base.specs.declared.reception_report.ReceptionReport.{ReceptionReport}
use Rattle.rtcp_wire.specs.declared.packet.Rtcp.{Rtcp}
use Rattle.rtcp_wire.specs.declared.packet.Rtcp.TheVariants.{SourceDescription}
use Rattle.rtcp_items.specs.declared.report.SenderInfo.{SenderInfo}
use Rattle.report_core.specs.declared.moments.ReceiverMoment.{ReceiverMoment}
use Rattle.report_core.specs.Moments.{item_of}
use Rattle.report_core.specs.Sender.{name_of}
use Rattle.stream_core.specs.Missing.{nack_of}
use Rattle.stream_core.specs.Reporting.{IsBrief, is_among, block_at, report_items, front_items, after_front, rx_items, items_with, sender_info_at}
use Rattle.stream_core.specs.Requests.{keyframe_with, bitrate_with}
use Rattle.stream_core.specs.RxRecord.{RxRecord}
use Rattle.stream_core.specs.TxRecord.{TxRecord}
use Rattle.stream_core.specs.declared.payload_types.TypeRow.{TypeRow}
use Rattle.stream_core.specs.declared.reports.Tick.{Tick}
use Rattle.rtp_base.specs.declared.keyframe_request.KeyframeRequestKind.{KeyframeRequestKind}
use Rattle.rtp_base.specs.declared.keyframe_request.KeyframeRequestKind.TheVariants.{Pli, Fir}
use Rattle.session_core.specs.Reports.{description_items, sender_report_items, reports_in, items_under, sender_items_with, answers}
use Rattle.session_core.specs.SessionRecord.{MediaRecord}
use Rattle.session_core.proofs.Fitting.{all_append}
use Rattle.session_core.proofs.Nacks.{nack_brief}

-- a report of one source, or of none
few_blocks : (o : Option ReceptionReport) → length (option_to_list o) ≤ 1
few_blocks None = omega arith
few_blocks (Some b) = omega arith

reports_brief : (t : Tick) (r : RxRecord) → AllByRecursion IsBrief (report_items t r)
reports_brief t r = (few_blocks (block_at t.now r), (tt, tt))

-- what a stream asks its sender for
keyframe_brief : (sender ssrc fir_number : ℕ) (kind : Option KeyframeRequestKind) → AllByRecursion IsBrief (keyframe_with sender ssrc fir_number kind)
keyframe_brief sender ssrc fir_number None = tt
keyframe_brief sender ssrc fir_number (Some Pli) = (tt, tt)
keyframe_brief sender ssrc fir_number (Some Fir) = (omega arith, tt)

bitrate_brief : (sender ssrc : ℕ) (rate : Option ℕ) → AllByRecursion IsBrief (bitrate_with sender ssrc rate)
bitrate_brief sender ssrc None = tt
bitrate_brief sender ssrc (Some rate) = (omega arith, tt)

front_brief : (t : Tick) (reports : Bool) (r : RxRecord) → AllByRecursion IsBrief (front_items t reports r)
front_brief t reports r =
    all_append IsBrief (keyframe_with t.sender_ssrc r.state.ssrc r.state.requests.fir_number r.state.requests.keyframe ++ bitrate_with t.sender_ssrc r.state.ssrc r.state.requests.bitrate) (if reports then report_items t r else [])
    (all_append IsBrief (keyframe_with t.sender_ssrc r.state.ssrc r.state.requests.fir_number r.state.requests.keyframe) (bitrate_with t.sender_ssrc r.state.ssrc r.state.requests.bitrate)
    (keyframe_brief t.sender_ssrc r.state.ssrc r.state.requests.fir_number r.state.requests.keyframe) (bitrate_brief t.sender_ssrc r.state.ssrc r.state.requests.bitrate))
    (by reports)
  where
    by : (b : Bool) → AllByRecursion IsBrief (if b then report_items t r else [])
    by true = reports_brief t r
    by false = tt

rx_brief : (t : Tick) (reports : Bool) (e : ℕ × RxRecord) → AllByRecursion IsBrief (rx_items t reports e)
rx_brief t reports e = all_append IsBrief (front_items t reports e.1) (if t.is_round then asked else []) (front_brief t reports e.1) (by t.is_round)
  where
    asked : List Rtcp
    asked = nack_of t.sender_ssrc t.now (e.0, after_front t reports e.1)

    by : (b : Bool) → AllByRecursion IsBrief (if b then asked else [])
    by true = nack_brief t.sender_ssrc t.now (e.0, after_front t reports e.1)
    by false = tt

-- what incoming streams say
pub incoming_brief : (t : Tick) (mids : List (List ℕ)) (rs : List (ℕ × RxRecord)) → AllByRecursion IsBrief (items_with t mids rs)
incoming_brief t mids [] = tt
incoming_brief t mids (e ∷ rs) =
    all_append IsBrief (rx_items t (is_among e.1.state.mid mids) e) (items_with t mids rs) (rx_brief t (is_among e.1.state.mid mids) e) (incoming_brief t mids rs)

-- the description of a source
description_brief : (ssrc : ℕ) (cname : List ℕ) → AllByRecursion IsBrief (description_items ssrc cname)
description_brief ssrc cname = by (nat_lt 0 (length cname)) (nat_le (length cname) 255) (λ e. leb-true (length cname) 255 e)
  where
    by : (a b : Bool) → (b ≡ true → length cname ≤ 255) → AllByRecursion IsBrief (if a && b then SourceDescription (name_of ssrc cname) ∷ [] else [])
    by true true short = ((ssrc, cname, short refl, refl), tt)
    by true false short = tt
    by false b short = tt

sender_report_brief : (info : SenderInfo) (cname : List ℕ) → AllByRecursion IsBrief (sender_report_items info cname)
sender_report_brief info cname = (refl, description_brief info.ssrc cname)

under_brief : (types : List (ℕ × TypeRow)) (beginning : Beginning) (now : ℕ) (x : TxRecord) (o : Option MediaRecord) → AllByRecursion IsBrief (items_under types beginning now x o)
under_brief types beginning now x None = tt
under_brief types beginning now x (Some m) = sender_report_brief (sender_info_at types now beginning x) m.cname

-- what outgoing streams report
pub senders_brief : (types : List (ℕ × TypeRow)) (beginning : Beginning) (medias : List MediaRecord) (now : ℕ) (mids : List (List ℕ)) (es : List (ℕ × TxRecord))
    → AllByRecursion IsBrief (sender_items_with types beginning medias now mids es)
senders_brief types beginning medias now mids [] = tt
senders_brief types beginning medias now mids (e ∷ es) =
    all_append IsBrief (items_under types beginning now e.1 (reports_in mids medias e.1)) (sender_items_with types beginning medias now mids es)
    (under_brief types beginning now e.1 (reports_in mids medias e.1)) (senders_brief types beginning medias now mids es)

-- the answers to moments
pub answers_brief : (now sender : ℕ) (ms : List ReceiverMoment) → AllByRecursion IsBrief (answers now sender ms)
answers_brief now sender [] = tt
answers_brief now sender (m ∷ ms) =
    let all : length (map (item_of now) (take 50 (m ∷ ms))) ≡ length (take 50 (m ∷ ms)) = length-map (take 50 (m ∷ ms)) (item_of now) in
    let few = length-take 50 (m ∷ ms) in
    (omega arith, tt)
