use Rattle.std.proofs.Common.{◌≡◌, true, false, Some, None, sym, ap, subst, ◌∙◌}
use Rattle.std.specs.Prelude.{◌+◌, ◌^◌, ◌-◌, min, if◌then◌else◌}
use Rattle.stream_core.specs.Missing.{any_enabled}
use Rattle.session_core.specs.SessionRecord.{streams_in, SessionState, StandsFor}
use Rattle.session_core.proofs.StreamsIn.{streams_stand}
use Rattle.session_core.proofs.session.Session.round_at.Goals as goal

pub returns-then-any_nack_enabled : goal.returns-then-any_nack_enabled
returns-then-any_nack_enabled g c = λ r h.
    let m = g.W.GapWindow.remembers in
    let mine = subst (λ s. StandsFor m g.S.ResendStore.stands_for s r) (sym c.self.view_is) h in
    let some : any_enabled r.rx ≡ true = sym (c.any_nack_enabled.ensures (streams_in r) (streams_stand m g.S.ResendStore.stands_for _ r mine)) ∙ c.if-any_nack_enabled.true in
    ap Some (c.saturating_add.ensures ∙ ap (λ n. min (c.self.inside.last_round + n) (2 ^ 64 - 1)) c.from_nanos-interval.ensures ∙ ap (λ (s : SessionState). min (s.last_round + 33000000) (2 ^ 64 - 1)) mine.state)
    ∙ sym (ap (λ b. if b then Some (min (r.state.last_round + 33000000) (2 ^ 64 - 1)) else None) some)

pub returns-else-any_nack_enabled : goal.returns-else-any_nack_enabled
returns-else-any_nack_enabled g c = λ r h.
    let m = g.W.GapWindow.remembers in
    let mine = subst (λ s. StandsFor m g.S.ResendStore.stands_for s r) (sym c.self.view_is) h in
    let none : any_enabled r.rx ≡ false = sym (c.any_nack_enabled.ensures (streams_in r) (streams_stand m g.S.ResendStore.stands_for _ r mine)) ∙ c.if-any_nack_enabled.false in
    sym (ap (λ b. if b then Some (min (r.state.last_round + 33000000) (2 ^ 64 - 1)) else None) none)
