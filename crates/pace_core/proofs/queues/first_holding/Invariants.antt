use Rattle.std.proofs.Common.{◌≡◌, drop}
use Rattle.pace_core.specs.Queues.{first_holding}
use Rattle.pace_core.proofs.queues.first_holding.Given as goal

abbrev pub invariant-loop-queue : goal.invariant-loop-queue
invariant-loop-queue l = first_holding (drop l.queue-index l.queues) ≡ first_holding l.queues
