use Rattle.std.proofs.Common.{sym, ap, subst}
use Rattle.session_core.specs.SessionRecord.{SessionState, SessionView, StandsFor}
use Rattle.session_core.specs.Draining.{stopped_from}
use Rattle.session_core.proofs.session.Session.handle_rtp_receive.Goals as goal

pub returns-in-Err-clause-stands : goal.returns-in-Err-clause-stands
returns-in-Err-clause-stands g c = λ is r h.
    let R = g.W.GapWindow.remembers in
    let S = g.S.ResendStore.stands_for in
    let some = c.in-Err.ensures.stands r h in
    let mine = subst (λ (v : SessionView g.row.W.Denot g.row.S.Denot). StandsFor R S v some.0) (sym c.self-2.view_is) some.1 in (
      record some.0 { state = stopped_from some.0.state },
      record {
        state = ap {A = SessionState} {B = SessionState} stopped_from mine.state;
        rx = mine.rx;
        known = mine.known;
        probes = mine.probes;
        seen = mine.seen;
        repairs = mine.repairs;
      },
    )
