use Rattle.std.proofs.Common.{◌≡◌}
use Rattle.session_core.specs.Reports.{sender_after}
use Rattle.session_core.proofs.Tables.{upto}
use Rattle.session_core.proofs.reporting.report_all.Given as goal

abbrev pub invariant-loop-place : goal.invariant-loop-place
invariant-loop-place g l = l.streams ≡ record l.fn.streams { tx = upto (sender_after l.medias l.moment l.mids) l.place l.fn.streams.tx }
