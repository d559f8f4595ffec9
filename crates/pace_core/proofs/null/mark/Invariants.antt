use Rattle.std.proofs.Common.{◌≡◌, ◌++◌, take, drop}
use Rattle.pace_core.specs.Null.{marked}
use Rattle.pace_core.proofs.null.mark.Given as goal

abbrev pub invariant-loop-queue : goal.invariant-loop-queue
invariant-loop-queue l = take l.queue-index l.queues ++ marked l.key l.now (drop l.queue-index l.queues) ≡ marked l.key l.now l.fn.queues
