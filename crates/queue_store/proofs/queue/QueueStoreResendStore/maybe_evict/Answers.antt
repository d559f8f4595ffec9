use Rattle.std.proofs.Common.{arith}
use Rattle.queue_store.specs.Queue.{IsOld}
use Rattle.queue_store.proofs.QueueLaws.{evicted_stands, late_stands, evict_marks}
use Rattle.queue_store.proofs.queue.QueueStoreResendStore.maybe_evict.Goals as goal

pub returns-then-as_nanos-clause-stands : goal.returns-then-as_nanos-clause-stands
returns-then-as_nanos-clause-stands g c = λ past h. late_stands c.event_laws.ensures.added c.args.self.now past c.args.now h (omega (arith, c.if-as_nanos.true, c.as_nanos.ensures, c.as_nanos-2.ensures))

pub returns-clause-stands : goal.returns-clause-stands
returns-clause-stands g c = λ past h.
    evicted_stands c.event_laws.ensures.added c.event_laws.ensures.stored c.args.self.now c.drop_old.new.self past c.args.now (c.drop_old.ensures.drops h.paired) (c.drop_old.ensures.done h.paired)
    (omega (arith, c.if-as_nanos.false, c.as_nanos.ensures, c.as_nanos-2.ensures)) h

pub returns-clause-marks : goal.returns-clause-marks
returns-clause-marks g c = λ past h.
    evict_marks (IsOld c.args.now c.args.self.now.age) c.args.self.now c.drop_old.new.self c.args.now (c.drop_old.ensures.drops h.paired)
