use Rattle.std.proofs.Common.{◌≤◌, sym, ap, subst, ◌∙◌, arith}
use Rattle.std.specs.Prelude.{◌-◌, ◌&&◌}
use Rattle.std.proofs.lemmas.Bool.{le-leb}
use Rattle.stream_core.specs.Missing.{any_enabled}
use Rattle.session_core.specs.SessionRecord.{streams_in, SessionState, StandsFor}
use Rattle.session_core.proofs.StreamsIn.{streams_stand}
use Rattle.session_core.proofs.session.Session.is_round.Goals as goal

pub returns-then-as_nanos-ge-NACK_MIN_INTERVAL : goal.returns-then-as_nanos-ge-NACK_MIN_INTERVAL
returns-then-as_nanos-ge-NACK_MIN_INTERVAL g c = λ r h.
    let m = g.W.GapWindow.remembers in
    let mine = subst (λ s. StandsFor m g.S.ResendStore.stands_for s r) (sym c.self.view_is) h in
    let last = ap (λ (s : SessionState). s.last_round) mine.state in
    let long : 33000000 ≤ c.args.now - r.state.last_round = omega arith in
    c.any_nack_enabled.ensures (streams_in r) (streams_stand m g.S.ResendStore.stands_for _ r mine)
    ∙ ap (λ b. b && any_enabled r.rx) (sym (le-leb 33000000 (c.args.now - r.state.last_round) long))
