use Rattle.resend_core.specs.ResendStore.{last_position}
use Rattle.rtx_core.specs.Resends.{numbers_of}
use Rattle.rtx_core.proofs.Holding.{asks_is}
use Rattle.rtx_core.proofs.resend_queue.ResendQueue.handle_nack.Goals as goal

pub returns-clause-ok : goal.returns-clause-ok
returns-clause-ok g c r h =
    asks_is g.S.ResendStore.stands_for g.S.ResendStore.value_at c.laws.ensures.holds g.P.Cached.size c.args.now (numbers_of (last_position r.cache.events) c.args.entries.now) c.args.self.now c.ask.new.self r h
    (c.in_ok-ask.ensures.asked r h) c.ask.ensures.cache
