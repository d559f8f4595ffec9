use Rattle.std.proofs.Common.{◌≡◌}
use Rattle.session_core.specs.Reports.{told_kind}
use Rattle.session_core.proofs.Tables.{upto}
use Rattle.session_core.proofs.reporting.tell_kinds.Given as goal

abbrev pub invariant-loop-place : goal.invariant-loop-place
invariant-loop-place g l = l.streams ≡ record l.fn.streams { tx = upto (told_kind l.medias) l.place l.fn.streams.tx }
