-- What streams keep for their reports, and what they say in a tick (RFC 3550 section 6.4).
use Rattle.std.specs.Prelude.{◌≡◌, ℕ, ◌+◌, ◌==◌, ◌≤◌, Bool, is_some, nat_le, if◌then◌else◌, List, [], ◌∷◌, ◌++◌, length, Option, Some, None, option_and_then}
use Rattle.std.specs.List.{flat_map, list_any}
use Rattle.std.specs.Option.{option_map}
use Rattle.std.specs.Cmp.Lexicographic.{pointwise}
use Rattle.media_units.specs.declared.wallclock.Beginning.{Beginning}
use Rattle.rtp_base.specs.declared.reception_report.ReceptionReport.{ReceptionReport}
use Rattle.repair_core.specs.Counts.{counts_report, counts_after}
use Rattle.repair_core.specs.Fresh.{greatest_of}
use Rattle.repair_core.specs.Rounds.{Heard, taken}
use Rattle.repair_core.specs.declared.register_nack.TheConstants.{MAX_ROUND_ENTRIES}
use Rattle.rtcp_wire.specs.declared.packet.Rtcp.{Rtcp}
use Rattle.rtcp_wire.specs.declared.packet.Rtcp.TheVariants.{SenderReport, ReceiverReport, SourceDescription, ExtendedReport, Nack, Pli, Fir, Remb}
use Rattle.rtcp_items.specs.declared.extended.ReportBlock.{ReportBlock}
use Rattle.rtcp_items.specs.declared.extended.ReportBlock.TheVariants.{Rrtr, Dlrr}
use Rattle.rtcp_items.specs.declared.report.SenderInfo.{SenderInfo}
use Rattle.report_core.specs.declared.clock.ReportIntervals.{ReportIntervals}
use Rattle.report_core.specs.declared.moments.TheConstants.{MAX_ANSWERED_MOMENTS}
use Rattle.report_core.specs.declared.rtp_clock.RtpClock.{RtpClock}
use Rattle.report_core.specs.Due.{receiver_due, sender_due, is_sender_due}
use Rattle.report_core.specs.LastReport.{with_report, block_of}
use Rattle.report_core.specs.Receiver.{receiver_report_of, moment_report_of}
use Rattle.report_core.specs.Sender.{info_of, name_of}
use Rattle.stream_core.specs.declared.payload_types.TypeRow.{TypeRow}
use Rattle.stream_core.specs.declared.reports.TheConstants.{MAX_CNAME_LEN}
use Rattle.stream_core.specs.declared.reports.Tick.{Tick}
use Rattle.stream_core.specs.Arrivals.{asked_of}
use Rattle.stream_core.specs.Missing.{nack_of, after_round}
use Rattle.stream_core.specs.Pauses.{on_record}
use Rattle.media_units.specs.Soonest.{earlier}
use Rattle.stream_core.specs.Requests.{is_request, request_count, request_items, told_requests}
use Rattle.stream_core.specs.RxRecord.{RxState, RxView, RxRecord}
use Rattle.stream_core.specs.Tables.{each, value_under}
use Rattle.stream_core.specs.TxRecord.{TxRecord}

-- the media section that the report of some stream is due of is among these
abbrev pub is_among : List ℕ → List (List ℕ) → Bool
is_among mid mids = list_any (λ m. pointwise ◌==◌ m mid) mids

-- when the report of an incoming stream is due, and whether it is at a moment
abbrev pub report_at : ReportIntervals → RxState → ℕ
report_at intervals s = receiver_due intervals (is_some s.rtx) s.reports.clock.last

abbrev pub is_report_due : ReportIntervals → ℕ → RxState → Bool
is_report_due intervals now s = nat_le (report_at intervals s) now

-- the media sections of the streams whose reports are due, in order
abbrev pub due_mids : ReportIntervals → ℕ → List (ℕ × RxRecord) → List (List ℕ)
due_mids intervals now [] = []
due_mids intervals now (e ∷ es) =
    if is_report_due intervals now e.1.state then e.1.state.mid ∷ due_mids intervals now es else due_mids intervals now es

-- the greatest number that was taken
abbrev pub greatest_in : Option Heard → Option ℕ
greatest_in None = None
greatest_in (Some past) = greatest_of (taken past)

-- the reception block of an incoming stream at a moment, where a packet came on it
abbrev pub block_at : ℕ → RxRecord → Option ReceptionReport
block_at now r =
    option_map (block_of r.state.ssrc r.state.reports.news.last now) (counts_report (greatest_in r.numbers) r.state.reports.counts)

-- the stream after it reported at a moment
abbrev pub reported : ℕ → RxRecord → RxRecord
reported now r = record r {
  state = record r.state {
    reports = record r.state.reports {
      counts = counts_after (greatest_in r.numbers) r.state.reports.counts;
      clock = record { last = now };
    };
  };
}

-- the report of an incoming stream in a tick, and the moment of the receiver behind it (RFC 3611 section 4.4)
abbrev pub report_items : Tick → RxRecord → List Rtcp
report_items t r =
    ReceiverReport (receiver_report_of t.sender_ssrc (block_at t.now r))
    ∷ ExtendedReport (moment_report_of t.sender_ssrc t.now t.beginning) ∷ []

-- what an incoming stream says in a tick before it asks for packets: what it asks its sender for, and then its reports, where
-- the report of some stream of its media section is due
abbrev pub front_items : Tick → Bool → RxRecord → List Rtcp
front_items t reports r =
    request_items t.sender_ssrc r.state.ssrc r.state.requests ++ (if reports then report_items t r else [])

-- how many items these are
abbrev pub front_count : Bool → RxState → ℕ
front_count reports s = request_count s.requests + (if reports then 2 else 0)

-- the stream after what it asked its sender for was told, which counts; after it reported in a tick, where it does; and after it asked for
-- packets, where the tick is a round
abbrev pub with_told : RxState → RxState
with_told s = record s {
  requests = told_requests s.requests;
  reports = record s.reports { stats = asked_of s.requests.keyframe s.reports.stats };
}

abbrev pub after_report : Tick → Bool → RxRecord → RxRecord
after_report t reports r = if reports then reported t.now r else r

abbrev pub after_front : Tick → Bool → RxRecord → RxRecord
after_front t reports r = after_report t reports (on_record with_told r)

abbrev pub after_asking : Tick → RxRecord → RxRecord
after_asking t r = if t.is_round then after_round t.now r else r

-- all that it says in a tick, and the stream after that
abbrev pub rx_items : Tick → Bool → ℕ × RxRecord → List Rtcp
rx_items t reports e =
    front_items t reports e.1
    ++ (if t.is_round then nack_of t.sender_ssrc t.now (e.0, after_front t reports e.1) else [])

abbrev pub rx_after : Tick → Bool → RxRecord → RxRecord
rx_after t reports r = after_asking t (after_front t reports r)

-- what all say, in order, and all after that; of these media sections the report of some stream is due
abbrev pub items_with : Tick → List (List ℕ) → List (ℕ × RxRecord) → List Rtcp
items_with t mids rs = flat_map (λ e. rx_items t (is_among e.1.state.mid mids) e) rs

abbrev pub after_with : Tick → List (List ℕ) → List (ℕ × RxRecord) → List (ℕ × RxRecord)
after_with t mids rs = each (λ r. rx_after t (is_among r.state.mid mids) r) rs

-- what all say before they ask for packets, in order, and how many items these are
abbrev pub fronts_with : Tick → List (List ℕ) → List (ℕ × RxRecord) → List Rtcp
fronts_with t mids rs = flat_map (λ e. front_items t (is_among e.1.state.mid mids) e.1) rs

abbrev pub fronts_count : {W : Type 0} → List (List ℕ) → List (ℕ × RxView W) → ℕ
fronts_count mids [] = 0
fronts_count mids (e ∷ es) = front_count (is_among e.1.state.mid mids) e.1.state + fronts_count mids es

abbrev pub incoming_items : Tick → List (ℕ × RxRecord) → List Rtcp
incoming_items t rs = items_with t (due_mids t.intervals t.now rs) rs

abbrev pub incoming_after : Tick → List (ℕ × RxRecord) → List (ℕ × RxRecord)
incoming_after t rs = after_with t (due_mids t.intervals t.now rs) rs

-- some incoming stream asks its sender for something
abbrev pub asks_sender : RxRecord → Bool
asks_sender r = is_request r.state.requests

abbrev pub any_request : List (ℕ × RxRecord) → Bool
any_request rs = list_any (λ e. asks_sender e.1) rs

-- an item that is short: it asks for packets with at most six entries, or one source for a key frame or a rate; it reports of
-- one source at most, or of a sender alone; it holds one block, the moment of a receiver or at most 50 answers to such; or it
-- names one source, with 1 to 255 bytes
abbrev pub IsBriefBlock : ReportBlock → Type 0
IsBriefBlock (Rrtr m) = Unit {0}
IsBriefBlock (Dlrr d) = length d.items ≤ MAX_ANSWERED_MOMENTS

abbrev pub AreBriefBlocks : List ReportBlock → Type 0
AreBriefBlocks [] = ⊥
AreBriefBlocks (b ∷ []) = IsBriefBlock b
AreBriefBlocks (b ∷ c ∷ rest) = ⊥

abbrev pub IsBrief : Rtcp → Type 0
IsBrief (Nack n) = length n.reports ≤ MAX_ROUND_ENTRIES
IsBrief (Pli p) = Unit {0}
IsBrief (Fir f) = length f.reports ≤ 1
IsBrief (Remb m) = length m.ssrcs ≤ 1
IsBrief (ReceiverReport r) = length r.reports ≤ 1
IsBrief (SenderReport r) = r.reports ≡ []
IsBrief (ExtendedReport x) = AreBriefBlocks x.blocks
IsBrief (SourceDescription d) = (ssrc : ℕ) × (cname : List ℕ) × (length cname ≤ MAX_CNAME_LEN) × (d ≡ name_of ssrc cname)
IsBrief _ = ⊥

-- the first moment at which a report of an incoming stream is due, or an earlier one
abbrev pub report_before : ReportIntervals → Option ℕ → List (ℕ × RxRecord) → Option ℕ
report_before intervals first [] = first
report_before intervals first (e ∷ es) = report_before intervals (earlier first (Some (report_at intervals e.1.state))) es

-- a sender report came at a moment
abbrev pub with_news : SenderInfo → ℕ → RxState → RxState
with_news info now s = record s { reports = record s.reports { news = with_report info now s.reports.news } }

-- when the report of an outgoing stream is due, and whether it is at a moment: never before its kind was told
abbrev pub tx_report_at : ReportIntervals → TxRecord → ℕ
tx_report_at intervals x = sender_due intervals x.reports.clock.last x.reports.clock.is_audio

abbrev pub is_tx_report_due : ReportIntervals → ℕ → TxRecord → Bool
is_tx_report_due intervals now x = is_sender_due intervals x.reports.clock.last x.reports.clock.is_audio now

abbrev pub due_tx_mids : ReportIntervals → ℕ → List (ℕ × TxRecord) → List (List ℕ)
due_tx_mids intervals now [] = []
due_tx_mids intervals now (e ∷ es) =
    if is_tx_report_due intervals now e.1 then e.1.mid ∷ due_tx_mids intervals now es else due_tx_mids intervals now es

abbrev pub tx_report_before : ReportIntervals → Option ℕ → List (ℕ × TxRecord) → Option ℕ
tx_report_before intervals first [] = first
tx_report_before intervals first (e ∷ es) = tx_report_before intervals (earlier first (Some (tx_report_at intervals e.1))) es

-- the clock of a type
abbrev pub clock_under : List (ℕ × TypeRow) → ℕ → Option ℕ
clock_under types pt = option_map (λ row. row.clock) (value_under pt types)

-- what tells the RTP time of an outgoing stream: its last write, and the clock of the type that was last sealed for the first
-- time
abbrev pub rtp_clock_of : List (ℕ × TypeRow) → TxRecord → RtpClock
rtp_clock_of types x = record { written = x.reports.written; clock = option_and_then (clock_under types) x.reports.sealed_type }

-- the report of an outgoing stream at a moment
abbrev pub sender_info_at : List (ℕ × TypeRow) → ℕ → Beginning → TxRecord → SenderInfo
sender_info_at types now beginning x = info_of x.ssrc (rtp_clock_of types x) x.reports.sent now beginning

-- after it reported
abbrev pub tx_reported : ℕ → TxRecord → TxRecord
tx_reported now x = record x { reports = record x.reports { clock = record x.reports.clock { last = now } } }

-- it was told to be of sound, or not
abbrev pub with_kind : Bool → TxRecord → TxRecord
with_kind is_audio x = record x { reports = record x.reports { clock = record x.reports.clock { is_audio = Some is_audio } } }
