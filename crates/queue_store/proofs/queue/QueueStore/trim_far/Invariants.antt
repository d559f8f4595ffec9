use Rattle.std.proofs.Common.{length}
use Rattle.queue_store.specs.Queue.{Drops, IsFar, IsPaired}
use Rattle.queue_store.proofs.queue.QueueStore.trim_far.Given as goal

abbrev pub invariant-loop-lowest : goal.invariant-loop-lowest
invariant-loop-lowest g l = IsPaired l.fn.self → Drops (IsFar l.fn.self) l.fn.self l.self

abbrev pub decreases-loop-lowest : goal.decreases-loop-lowest
decreases-loop-lowest g l = length l.self.stamps
