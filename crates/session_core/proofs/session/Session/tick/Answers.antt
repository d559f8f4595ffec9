use Rattle.std.proofs.Common.{◌≡◌, sym, ap, subst, ◌∙◌}
use Rattle.session_core.specs.Reports.{sender_ssrc}
use Rattle.session_core.specs.Rounds.{is_round}
use Rattle.session_core.specs.SessionRecord.{SessionState, StandsFor}
use Rattle.session_core.proofs.session.Session.tick.Goals as goal

pub returns : goal.returns
returns g c = λ r h.
    let m = g.W.GapWindow.remembers in
    let now = c.args.now in
    let mine = subst (λ s. StandsFor m g.S.ResendStore.stands_for s r) (sym c.self.view_is) h in
    let round : c.is_round.result ≡ is_round now r = c.is_round.ensures r h in
    let sender : c.sender_ssrc.result ≡ sender_ssrc r.state = c.sender_ssrc.ensures ∙ ap (λ (s : SessionState). sender_ssrc s) h.state in
    (λ j. record { now = now; sender_ssrc = sender j; beginning = c.self.inside.transport.beginning; intervals = c.self.inside.intervals; is_round = round j })
    ∙ ap (λ (s : SessionState). record { now = now; sender_ssrc = sender_ssrc r.state; beginning = s.transport.beginning; intervals = s.intervals; is_round = is_round now r }) mine.state
