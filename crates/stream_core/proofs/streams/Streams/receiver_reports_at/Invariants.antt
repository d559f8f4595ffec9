use Rattle.std.proofs.Common.{◌≡◌, ℕ, List, None, drop}
use Rattle.stream_core.specs.Reporting.{report_before}
use Rattle.stream_core.specs.RxRecord.{RxRecord, StandsFor}
use Rattle.stream_core.specs.Tables.{Along}
use Rattle.stream_core.proofs.streams.Streams.receiver_reports_at.Given as goal

abbrev pub invariant-loop-place : goal.invariant-loop-place
invariant-loop-place g l =
    (rs : List (ℕ × RxRecord)) → Along (StandsFor g.W.GapWindow.remembers) l.self-inside.rx rs → report_before l.intervals l.first (drop l.place rs) ≡ report_before l.intervals None rs
