use Rattle.rtx_core.proofs.Caching.{caches_is}
use Rattle.rtx_core.proofs.resend_queue.ResendQueue.cache_sent_packet.Goals as goal

pub returns-in-Ok-clause-ok : goal.returns-in-Ok-clause-ok
returns-in-Ok-clause-ok g c r h =
    caches_is g.S.ResendStore.stands_for g.P.Cached.size g.P.Cached.number c.args.now c.args.packet c.payload_len.result c.payload_len.ensures c.args.self.now c.push_sent.new.self c.keep.new.self c.forget_sent.new.self
    r h c.requires.number c.in_ok-push_sent.ensures.ok c.keep.ensures.state c.in-Ok.ensures.ok c.forget_sent.ensures
