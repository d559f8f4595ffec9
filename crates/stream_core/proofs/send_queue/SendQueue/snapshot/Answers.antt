use Rattle.std.proofs.Common.{◌∙◌, subst, arith}
use Rattle.stream_core.specs.Totals.{Totals}
use Rattle.stream_core.proofs.Totals.{snapshot_is}
use Rattle.stream_core.proofs.send_queue.SendQueue.snapshot.Goals as goal

pub returns : goal.returns
returns c =
    let q = c.self.inside in
    snapshot_is c.args.self.now q.stamped q.bytes q.stamps q.last_tick c.args.now q.rising c.args.last_emitted c.min.result c.min-2.result c.from_nanos.result c.all_waits-total.result.1 c.priority_of.result
    (subst (λ l. Totals l q.stamped q.bytes q.stamps q.last_tick q.rising) c.self.view_is c.self.invariant)
    (omega arith) (omega arith) (c.from_nanos.ensures ∙ c.all_waits-total.ensures.total) c.all_waits-total.ensures.first c.priority_of.ensures
