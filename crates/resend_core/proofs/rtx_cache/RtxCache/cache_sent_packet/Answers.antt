use Rattle.std.proofs.Common.{◌≡◌, ◌∙◌, ◌/◌, ℕ, Some, ap, subst}
use Rattle.std.specs.Prelude.{slice_set}
use Rattle.resend_core.specs.ResendStore.{IsPushedInto}
use Rattle.resend_core.proofs.CacheSteps.{cached_stands}
use Rattle.resend_core.proofs.rtx_cache.RtxCache.cache_sent_packet.Goals as goal

pub returns-clause-ok : goal.returns-clause-ok
returns-clause-ok g c = λ past h.
    let number : c.from-number.result ≡ g.P.Cached.number c.args.packet = c.from-number.ensures ∙ c.seq_no.ensures in
    cached_stands g.S.ResendStore.stands_for g.P.Cached.size c.args.self.now (record c.args.self.now { packets = c.maybe_evict.new.self; numbers = c.put.new.self }) c.push.new.self past (g.P.Cached.number c.args.packet) c.args.now c.args.packet
    (subst (λ (n : ℕ). IsPushedInto g.S.ResendStore.stands_for past n c.args.now c.args.packet c.push.new.self) number (c.in_ok-push.ensures.ok past h.store))
    c.maybe_evict.ensures.stands
    (c.put.ensures
    ∙ ap (λ (n : ℕ). slice_set c.args.self.now.numbers (c.payload_len-class.result / 25) (Some n)) number
    ∙ ap (λ (n : ℕ). slice_set c.args.self.now.numbers (n / 25) (Some (g.P.Cached.number c.args.packet))) c.payload_len-class.ensures)
    h
