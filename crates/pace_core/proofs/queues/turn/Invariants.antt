use Rattle.std.proofs.Common.{◌≡◌, drop}
use Rattle.std.specs.Prelude.{None}
use Rattle.std.specs.Option.{option_copied}
use Rattle.pace_core.specs.Queues.{turn_from}
use Rattle.pace_core.proofs.queues.turn.Given as goal

abbrev pub invariant-loop-queue : goal.invariant-loop-queue
invariant-loop-queue l = turn_from (option_copied l.best) (drop l.queue-index l.queues) ≡ turn_from None l.queues
