use Rattle.std.proofs.Common.{sym, subst, arith}
use Rattle.rtx_core.specs.Resends.{StandsFor}
use Rattle.rtx_core.proofs.Holding.{last_small}
use Rattle.rtx_core.proofs.resend_queue.ResendQueue.last_seq_no.Goals as goal

pub returns-else-from-lt-NUMBER_LIMIT-clause-last : goal.returns-else-from-lt-NUMBER_LIMIT-clause-last
returns-else-from-lt-NUMBER_LIMIT-clause-last g c r h =
    let mine = subst (λ s. StandsFor g.S.ResendStore.stands_for g.P.Cached.size s r) (sym c.self.view_is) h in
    let small = last_small r.cache.events c.in_ok-last.last h.numbers (sym (c.in_ok-last.ensures r.cache mine.cache)) in
    absurd (omega (arith, small, c.if-from-lt-NUMBER_LIMIT.false, c.from.ensures))
