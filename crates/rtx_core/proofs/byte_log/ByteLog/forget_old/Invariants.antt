use Rattle.std.proofs.Common.{◌≡◌, length}
use Rattle.rtx_core.specs.Ratio.{recent}
use Rattle.rtx_core.proofs.byte_log.ByteLog.forget_old.Given as goal

abbrev pub invariant-loop-now : goal.invariant-loop-now
invariant-loop-now l = recent l.now l.self ≡ recent l.now l.initial.self

abbrev pub decreases-loop-now : goal.decreases-loop-now
decreases-loop-now l = length l.self
