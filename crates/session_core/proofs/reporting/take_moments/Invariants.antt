use Rattle.std.proofs.Common.{◌≡◌, take}
use Rattle.session_core.specs.Reports.{moments_heard}
use Rattle.session_core.proofs.reporting.take_moments.Given as goal

abbrev pub invariant-loop-item : goal.invariant-loop-item
invariant-loop-item l = l.moments ≡ moments_heard l.now (take l.item-index l.fn.feedback) l.fn.moments
