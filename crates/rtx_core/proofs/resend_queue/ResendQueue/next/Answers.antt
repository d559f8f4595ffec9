use Rattle.rtx_core.proofs.Holding.{next_is}
use Rattle.rtx_core.proofs.resend_queue.ResendQueue.next.Goals as goal

pub returns-then-is_capped-clause-due : goal.returns-then-is_capped-clause-due
returns-then-is_capped-clause-due g c = next_is g.S.ResendStore.stands_for g.S.ResendStore.value_at c.laws.ensures.holds g.P.Cached.size c.args.now c.args.self.now

pub returns-clause-due : goal.returns-clause-due
returns-clause-due g c = next_is g.S.ResendStore.stands_for g.S.ResendStore.value_at c.laws.ensures.holds g.P.Cached.size c.args.now c.args.self.now
