use Rattle.resend_core.proofs.CacheSteps.{emptied_stands}
use Rattle.resend_core.proofs.rtx_cache.RtxCache.clear.Goals as goal

pub returns : goal.returns
returns g c = λ past h. emptied_stands g.S.ResendStore.stands_for g.P.Cached.size (record c.args.self.now { packets = c.clear.new.self; numbers = c.new-self.result }) past c.new-self.ensures (c.clear.ensures.stands past h.store)
