use Rattle.std.proofs.Common.{◌≡◌, drop}
use Rattle.std.specs.Prelude.{None}
use Rattle.std.specs.Option.{option_copied}
use Rattle.pace_core.specs.Queues.{unpaced_from}
use Rattle.pace_core.proofs.queues.longest_unpaced.Given as goal

abbrev pub invariant-loop-queue : goal.invariant-loop-queue
invariant-loop-queue l = unpaced_from (option_copied l.best) (drop l.queue-index l.queues) ≡ unpaced_from None l.queues
