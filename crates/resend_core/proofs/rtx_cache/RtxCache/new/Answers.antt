use Rattle.resend_core.proofs.CacheSteps.{made_stands}
use Rattle.resend_core.proofs.rtx_cache.RtxCache.new.Goals as goal

pub returns : goal.returns
returns g c =
    made_stands g.S.ResendStore.stands_for g.P.Cached.size _ c.args.max_packets c.args.max_age c.min.result c.new-2.ensures c.min.ensures c.in_ok-packets.ensures.stands
