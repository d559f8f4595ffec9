use Rattle.std.proofs.Common.{◌≡◌, sym, ap, subst, ◌∙◌}
use Rattle.stream_core.specs.Pauses.{first_pause}
use Rattle.media_units.specs.Soonest.{earlier}
use Rattle.stream_core.specs.RxRecord.{RxState}
use Rattle.session_core.specs.Reports.{reports_at}
use Rattle.session_core.specs.Rounds.{requests_at, round_at, send_at}
use Rattle.session_core.specs.SessionRecord.{streams_in, SessionState, StandsFor}
use Rattle.session_core.proofs.StreamsIn.{streams_stand}
use Rattle.session_core.proofs.session.Session.poll_timeout.Goals as goal

pub returns : goal.returns
returns g c = λ r h.
    let m = g.W.GapWindow.remembers in
    let mine = subst (λ s. StandsFor m g.S.ResendStore.stands_for s r) (sym c.self.view_is) h in
    let rx = c.paused_at.ensures (streams_in r) (streams_stand m g.S.ResendStore.stands_for _ r mine) in
    let probes = c.paused_at-2.ensures ∙ ap (λ (s : RxState). s.pause_at) mine.probes.state in
    let paused : c.earlier-paused_at.result ≡ earlier (first_pause r.rx) r.probes.state.pause_at = c.earlier-paused_at.ensures ∙ (λ j. earlier (rx j) (probes j)) in
    let send = c.send_at.ensures ∙ ap (λ (s : SessionState). send_at s) h.state in
    let others : c.earlier-others_at.result ≡ earlier (round_at r) (earlier (earlier (first_pause r.rx) r.probes.state.pause_at) (send_at r.state)) =
    c.earlier-others_at.ensures ∙ (λ j. earlier (c.round_at.ensures r h j) ((c.earlier.ensures ∙ (λ i. earlier (paused i) (send i))) j)) in
    let first : c.earlier-feedback_at.result ≡ earlier (reports_at r) (requests_at r) = c.earlier-feedback_at.ensures ∙ (λ j. earlier (c.reports_at.ensures r h j) (c.requests_at.ensures r h j)) in
    c.earlier-2.ensures ∙ (λ j. earlier (first j) (others j))
