use Rattle.std.proofs.Common.{◌≡◌, None, drop}
use Rattle.stream_core.specs.Reporting.{tx_report_before}
use Rattle.stream_core.proofs.streams.Streams.sender_reports_at.Given as goal

abbrev pub invariant-loop-place : goal.invariant-loop-place
invariant-loop-place g l = tx_report_before l.intervals l.first (drop l.place l.self-inside.tx) ≡ tx_report_before l.intervals None l.self-inside.tx
