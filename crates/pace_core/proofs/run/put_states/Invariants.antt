use Rattle.std.proofs.Common.{◌≡◌, ◌++◌, drop}
use Rattle.pace_core.specs.Run.{states_of}
use Rattle.pace_core.proofs.run.put_states.Given as goal

abbrev pub invariant-loop-queue : goal.invariant-loop-queue
invariant-loop-queue l = l.states.items ++ states_of l.sends l.now (drop l.queue-index l.queues) ≡ states_of l.sends l.now l.queues
