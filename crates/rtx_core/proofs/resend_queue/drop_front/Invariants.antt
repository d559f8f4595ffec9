use Rattle.std.proofs.Common.{◌≡◌, drop}
use Rattle.rtx_core.proofs.resend_queue.drop_front.Given as goal

abbrev pub invariant-loop-turn : goal.invariant-loop-turn
invariant-loop-turn g l = l.queue.items ≡ drop l._turn l.fn.queue.items
