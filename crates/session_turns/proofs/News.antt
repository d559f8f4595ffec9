-- What incoming streams keep of the reports of their senders, and of the descriptions of their sources.
use Rattle.std.proofs.Common.{ℕ, List, [], ◌∷◌, Option}
use Rattle.std.specs.List.{AllZip}
use Rattle.rtcp_wire.specs.declared.rtcp_fb.RtcpFb.{RtcpFb}
use Rattle.rtcp_wire.specs.declared.rtcp_fb.RtcpFb.TheVariants.{SenderInfo, ReceptionReport, SourceDescription, Goodbye, Rrtr, DlrrItem, Nack, Pli, Fir, Twcc, Remb, AppSpecificFeedback}
use Rattle.stream_core.specs.Names.{described_by}
use Rattle.stream_core.specs.Pauses.{on_record}
use Rattle.stream_core.specs.Reporting.{with_news}
use Rattle.stream_core.specs.RxRecord.{RxRecord as StreamRx}
use Rattle.stream_core.specs.declared.reports.RxReports.{RxReports}
use Rattle.stream_core.specs.Tables.{place_of}
use Rattle.session_core.specs.Reports.{rx_heard_by, rx_heard}
use Rattle.run_model.specs.Events.{Incoming}
use Rattle.run_model.specs.RxPlay.{RxRecord}
use Rattle.session_turns.specs.Mirrors.{RxStands}
use Rattle.session_turns.proofs.Keys.{zip_changed_at}

module _ (threshold : ℕ) (seen : List (ℕ × List ℕ)) (trip : Option ℕ) (now : ℕ) where
  abbrev Stands : ℕ × StreamRx → Incoming × RxRecord → Type 0
  Stands = RxStands threshold trip seen

  -- a stream that is told of its sender and its source takes and asks for what it did
  told_stands : (reports : RxReports) (cname : Option (List ℕ)) (e : ℕ × StreamRx) (s : Incoming × RxRecord) → Stands e s
      → Stands (e.0, record (e.1) { state = record (e.1.state) { reports = reports; cname = cname } }) s
  told_stands reports cname e s h =
      let m = h.mirrors in
      record {
        key = h.key;
        trip_is = h.trip_is;
        mirrors = record {
          ssrc = m.ssrc;
          roc = m.roc;
          suppressed = m.suppressed;
          threshold_is = m.threshold_is;
          pause = m.pause;
          numbers = m.numbers;
          begun = m.begun;
          repairs = m.repairs;
          seen_main = m.seen_main;
          seen_rtx = m.seen_rtx;
        };
      }

  news_by : (f : RtcpFb) (rx : List (ℕ × StreamRx)) (table : List (Incoming × RxRecord)) → AllZip Stands rx table → AllZip Stands (rx_heard_by now f rx) table
  news_by (SenderInfo i) rx table h = zip_changed_at Stands (on_record (with_news i now)) (λ e. told_stands (with_news i now e.1.state).reports e.1.state.cname e) rx table (place_of i.ssrc rx) h
  news_by (ReceptionReport a) rx table h = h
  news_by (SourceDescription d) rx table h = zip_changed_at Stands (on_record (described_by d)) (λ e. told_stands e.1.state.reports (described_by d e.1.state).cname e) rx table (place_of d.ssrc rx) h
  news_by (Goodbye a) rx table h = h
  news_by (Rrtr a b) rx table h = h
  news_by (DlrrItem a) rx table h = h
  news_by (Nack a b) rx table h = h
  news_by (Pli a) rx table h = h
  news_by (Fir a) rx table h = h
  news_by (Twcc a) rx table h = h
  news_by (Remb a b) rx table h = h
  news_by (AppSpecificFeedback a) rx table h = h

  pub all_news : (fs : List RtcpFb) (rx : List (ℕ × StreamRx)) (table : List (Incoming × RxRecord)) → AllZip Stands rx table → AllZip Stands (rx_heard now fs rx) table
  all_news [] rx table h = h
  all_news (f ∷ fs) rx table h = all_news fs (rx_heard_by now f rx) table (news_by f rx table h)
