use Rattle.std.proofs.Common.{None, sym, ap, subst, ◌∙◌}
use Rattle.media_units.specs.Soonest.{earlier}
use Rattle.stream_core.specs.Reporting.{report_before, tx_report_before}
use Rattle.session_core.specs.SessionRecord.{streams_in, SessionState, StandsFor}
use Rattle.session_core.proofs.StreamsIn.{streams_stand}
use Rattle.session_core.proofs.session.Session.reports_at.Goals as goal

pub returns : goal.returns
returns g c = λ r h.
    let m = g.W.GapWindow.remembers in
    let mine = subst (λ s. StandsFor m g.S.ResendStore.stands_for s r) (sym c.self.view_is) h in
    let rx = c.receiver_reports_at.ensures (streams_in r) (streams_stand m g.S.ResendStore.stands_for _ r mine) ∙ ap (λ (s : SessionState). report_before s.intervals None r.rx) mine.state in
    let tx = c.sender_reports_at.ensures ∙ ap (λ (s : SessionState). tx_report_before s.intervals None s.tx) mine.state in
    c.earlier.ensures ∙ (λ j. earlier (rx j) (tx j))
