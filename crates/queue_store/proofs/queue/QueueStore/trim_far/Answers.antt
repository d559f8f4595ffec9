use Rattle.std.proofs.Common.{◌≡◌, ◌-◌, ◌≤◌, ap, sym, arith}
use Rattle.queue_store.specs.declared.queue.QueueStore.{QueueStore}
use Rattle.queue_store.specs.Queue.{IsFar}
use Rattle.queue_store.proofs.QueueLaws.{drops_then, far_is}
use Rattle.queue_store.proofs.queue.QueueStore.trim_far.Goals as goal

pub loop-lowest-preserved : goal.loop-lowest-preserved
loop-lowest-preserved g c = λ pair.
    let d = c.loop-lowest.invariant pair in
    let size : c.loop-lowest.self.size ≡ c.args.self.now.size = ap (λ (q : QueueStore g.row.T.Denot). q.size) d.rest in
    let below : (c.in-Some-first.lowest.position ≤ c.in-Some.last.position) × (c.in-Some-checked_sub.below ≡ c.in-Some.last.position - c.in-Some-first.lowest.position) = c.in-Some-checked_sub.ensures in
    drops_then (IsFar c.args.self.now) c.in-Some-first.lowest c.args.self.now c.loop-lowest.self c.drop_lowest.new.self d (c.drop_lowest.ensures.drops d.paired)
    (far_is c.args.self.now c.in-Some.last c.in-Some-first.lowest c.in-Some-checked_sub.below pair c.in-Some.ensures.some below.0 (sym below.1) (omega (arith, size, c.if-self-below.true)))
