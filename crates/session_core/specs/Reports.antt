-- What a session reports in a tick (RFC 3550 section 6.4, RFC 3611 section 4.5), and what it hears of reports.
use Rattle.std.specs.Prelude.{ℕ, ◌&&◌, Bool, nat_lt, nat_le, is_some, if◌then◌else◌, List, [], ◌∷◌, ◌++◌, length, Option, Some, None}
use Rattle.std.specs.List.{flat_map, list_any, AllByRecursion}
use Rattle.std.specs.Option.{option_map, option_to_list}
use Rattle.media_units.specs.declared.wallclock.Beginning.{Beginning}
use Rattle.rtcp_wire.specs.declared.packet.Rtcp.{Rtcp}
use Rattle.rtcp_wire.specs.declared.packet.Rtcp.TheVariants.{SenderReport, SourceDescription, ExtendedReport}
use Rattle.rtcp_wire.specs.declared.rtcp_fb.RtcpFb.{RtcpFb}
use Rattle.rtcp_items.specs.declared.report.SenderInfo.{SenderInfo}
use Rattle.rtcp_wire.specs.declared.rtcp_fb.RtcpFb.TheVariants as feedback
use Rattle.payload_core.specs.Codecs.{same_kind}
use Rattle.payload_core.specs.declared.codec.MediaKind.{MediaKind}
use Rattle.payload_core.specs.declared.codec.MediaKind.TheVariants.{Audio}
use Rattle.report_core.specs.declared.moments.ReceiverMoment.{ReceiverMoment}
use Rattle.report_core.specs.Moments.{moment_of, with_moment, answer_of, unanswered}
use Rattle.report_core.specs.Sender.{report_of, name_of}
use Rattle.stream_core.specs.Names.{described_by}
use Rattle.stream_core.specs.Pauses.{on_record}
use Rattle.media_units.specs.Soonest.{earlier}
use Rattle.stream_core.specs.Reporting.{is_among, due_tx_mids, incoming_items, sender_info_at, tx_reported, with_kind, with_news, report_before, tx_report_before}
use Rattle.stream_core.specs.RxRecord.{RxRecord}
use Rattle.stream_core.specs.Tables.{each, change_at}
use Rattle.stream_core.specs.TxRecord.{TxRecord}
use Rattle.stream_core.specs.declared.payload_types.TypeRow.{TypeRow}
use Rattle.stream_core.specs.declared.reports.TheConstants.{MAX_CNAME_LEN}
use Rattle.stream_core.specs.declared.reports.Tick.{Tick}
use Rattle.session_core.specs.Feedback.{FitsAlone}
use Rattle.session_core.specs.Medias.{media_of}
use Rattle.session_core.specs.SessionRecord.{MediaRecord, SessionState, SessionRecord}

-- the SSRC of a session's feedback: that of its first outgoing stream, else its own
abbrev pub first_ssrc : List (ℕ × TxRecord) → ℕ → ℕ
first_ssrc [] own = own
first_ssrc (e ∷ es) own = e.1.ssrc

abbrev pub sender_ssrc : SessionState → ℕ
sender_ssrc s = first_ssrc s.tx s.local_ssrc

-- a tick at a moment, for its streams
abbrev pub tick_at : ℕ → (is_round : Bool) → SessionState → Tick
tick_at now is_round s = record {
  now = now;
  sender_ssrc = sender_ssrc s;
  beginning = s.transport.beginning;
  intervals = s.intervals;
  is_round = is_round;
}

-- a source is described by a name of 1 to 255 bytes, and else not
abbrev pub description_items : ℕ → List ℕ → List Rtcp
description_items ssrc cname =
    if nat_lt 0 (length cname) && nat_le (length cname) MAX_CNAME_LEN then SourceDescription (name_of ssrc cname) ∷ [] else []

-- the report of an outgoing stream, and the description of its source behind it
abbrev pub sender_report_items : SenderInfo → List ℕ → List Rtcp
sender_report_items info cname = SenderReport (report_of info) ∷ description_items info.ssrc cname

-- the media section in which an outgoing stream reports in a tick: its own, where the report of some stream of that is due
abbrev pub reports_in : List (List ℕ) → List MediaRecord → TxRecord → Option MediaRecord
reports_in mids medias x = if is_among x.mid mids then media_of x.mid medias else None

-- what an outgoing stream reports so at a moment, and all of them, in order
abbrev pub items_under : List (ℕ × TypeRow) → Beginning → ℕ → TxRecord → Option MediaRecord → List Rtcp
items_under types beginning now x None = []
items_under types beginning now x (Some m) = sender_report_items (sender_info_at types now beginning x) m.cname

abbrev pub sender_items_with : List (ℕ × TypeRow) → Beginning → List MediaRecord → ℕ → List (List ℕ) → List (ℕ × TxRecord) → List Rtcp
sender_items_with types beginning medias now mids es =
    flat_map (λ e. items_under types beginning now e.1 (reports_in mids medias e.1)) es

abbrev pub sender_after : List MediaRecord → ℕ → List (List ℕ) → TxRecord → TxRecord
sender_after medias now mids x = if is_some (reports_in mids medias x) then tx_reported now x else x

abbrev pub some_reports : List MediaRecord → List (List ℕ) → List (ℕ × TxRecord) → Bool
some_reports medias mids es = list_any (λ e. is_some (reports_in mids medias e.1)) es

-- the media sections of outgoing streams whose reports are due at a moment; all reports, and the streams after them
abbrev pub due_senders : ℕ → SessionState → List (List ℕ)
due_senders now s = due_tx_mids s.intervals now s.tx

abbrev pub sender_items : ℕ → SessionState → List Rtcp
sender_items now s = sender_items_with s.types s.transport.beginning s.medias now (due_senders now s) s.tx

abbrev pub after_senders : ℕ → SessionState → SessionState
after_senders now s = record s {
  feedback = s.feedback ++ sender_items now s;
  tx = each (sender_after s.medias now (due_senders now s)) s.tx;
}

-- the answers to moments of receivers, where some outgoing stream reports
abbrev pub answers : ℕ → (sender_ssrc : ℕ) → List ReceiverMoment → List Rtcp
answers now sender_ssrc moments = option_to_list (option_map ExtendedReport (answer_of sender_ssrc now moments))

abbrev pub after_answers : ℕ → (reports : Bool) → SessionState → SessionState
after_answers now reports s = if reports then record s {
  feedback = s.feedback ++ answers now (sender_ssrc s) s.moments;
  moments = unanswered s.moments;
} else s

-- all that outgoing streams have said in a tick: their reports, and the answers behind them where some stream reports
abbrev pub sender_and_answers : ℕ → SessionState → List Rtcp
sender_and_answers now s =
    sender_items now s
    ++ (if some_reports s.medias (due_senders now s) s.tx then answers now (sender_ssrc s) s.moments else [])

-- the reports of a tick of outgoing streams, and the answers behind them
abbrev pub after_sender_reports : ℕ → SessionState → SessionState
after_sender_reports now s = after_answers now (some_reports s.medias (due_senders now s) s.tx) (after_senders now s)

-- an outgoing stream is told its kind at its first tick, where it has a media section
abbrev pub is_sound : MediaKind → Bool
is_sound kind = same_kind Audio kind

abbrev pub of_kind : Option Bool → Option MediaRecord → TxRecord → TxRecord
of_kind (Some told) o x = x
of_kind None None x = x
of_kind None (Some m) x = with_kind (is_sound m.kind) x

abbrev pub told_kind : List MediaRecord → TxRecord → TxRecord
told_kind medias x = of_kind x.reports.clock.is_audio (media_of x.mid medias) x

-- when the next report is due, where there is a stream
abbrev pub reports_at : SessionRecord → Option ℕ
reports_at r = earlier (report_before r.state.intervals None r.rx) (tx_report_before r.state.intervals None r.state.tx)

-- the incoming streams and the moments of receivers that wait, after feedback came at a moment: a sender's report, the
-- description of a source, and a receiver's moment
abbrev pub rx_heard_by : ℕ → RtcpFb → List (ℕ × RxRecord) → List (ℕ × RxRecord)
rx_heard_by now (feedback.SenderInfo i) rx = change_at i.ssrc (on_record (with_news i now)) rx
rx_heard_by now (feedback.SourceDescription d) rx = change_at d.ssrc (on_record (described_by d)) rx
rx_heard_by now _ rx = rx

abbrev pub rx_heard : ℕ → List RtcpFb → List (ℕ × RxRecord) → List (ℕ × RxRecord)
rx_heard now [] rx = rx
rx_heard now (f ∷ fs) rx = rx_heard now fs (rx_heard_by now f rx)

abbrev pub moments_heard_by : ℕ → RtcpFb → List ReceiverMoment → List ReceiverMoment
moments_heard_by now (feedback.Rrtr moment ssrc) ms = with_moment (moment_of ssrc moment now) ms
moments_heard_by now _ ms = ms

abbrev pub moments_heard : ℕ → List RtcpFb → List ReceiverMoment → List ReceiverMoment
moments_heard now [] ms = ms
moments_heard now (f ∷ fs) ms = moments_heard now fs (moments_heard_by now f ms)

-- each item that a tick queues fits a compound of its own, whatever the session
abbrev pub TickItemsFit : Type 0
TickItemsFit =
    (now : ℕ) (t : Tick) (s : SessionState) (rs : List (ℕ × RxRecord)) (moments : List ReceiverMoment)
    → AllByRecursion FitsAlone (incoming_items t rs) × AllByRecursion FitsAlone (sender_items now s)
    × AllByRecursion FitsAlone (answers now (sender_ssrc s) moments)
