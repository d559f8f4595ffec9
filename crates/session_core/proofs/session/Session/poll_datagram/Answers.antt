use Rattle.std.proofs.Common.{sym, ap, subst}
use Rattle.session_core.specs.SessionRecord.{StandsFor}
use Rattle.session_core.specs.Draining.{stopped_from}
use Rattle.session_core.proofs.session.Session.poll_datagram.Goals as goal

pub returns-in-Err-clause-failed : goal.returns-in-Err-clause-failed
returns-in-Err-clause-failed g c = λ runs r h.
    let k = c.in-Err.ensures.failed r h in
    let mine = subst (λ s. StandsFor g.W.GapWindow.remembers g.S.ResendStore.stands_for s k.0) (sym c.self-2.view_is) k.2 in
    (k.0, k.1, record { state = ap stopped_from mine.state; rx = mine.rx; known = mine.known; probes = mine.probes; seen = mine.seen; repairs = mine.repairs })
