use Rattle.std.proofs.Common.{length}
use Rattle.uses.proofs.answer_a_nack.answer_a_nack.Given as goal

abbrev pub decreases-loop-number : goal.decreases-loop-number
decreases-loop-number g l = length l.queue.state.resends
