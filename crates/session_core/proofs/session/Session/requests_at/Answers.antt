use Rattle.std.proofs.Common.{◌≡◌, true, false, Some, None, sym, ap, subst, ◌∙◌}
use Rattle.std.specs.Prelude.{if◌then◌else◌}
use Rattle.stream_core.specs.Reporting.{any_request}
use Rattle.session_core.specs.SessionRecord.{streams_in, StandsFor}
use Rattle.session_core.proofs.StreamsIn.{streams_stand}
use Rattle.session_core.proofs.session.Session.requests_at.Goals as goal

pub returns-then-any_request : goal.returns-then-any_request
returns-then-any_request g c = λ r h.
    let m = g.W.GapWindow.remembers in
    let mine = subst (λ s. StandsFor m g.S.ResendStore.stands_for s r) (sym c.self.view_is) h in
    let some : any_request r.rx ≡ true = sym (c.any_request.ensures (streams_in r) (streams_stand m g.S.ResendStore.stands_for _ r mine)) ∙ c.if-any_request.true in
    ap Some c.already_happened.ensures ∙ ap (λ b. if b then Some 0 else None) (sym some)

pub returns-else-any_request : goal.returns-else-any_request
returns-else-any_request g c = λ r h.
    let m = g.W.GapWindow.remembers in
    let mine = subst (λ s. StandsFor m g.S.ResendStore.stands_for s r) (sym c.self.view_is) h in
    let none : any_request r.rx ≡ false = sym (c.any_request.ensures (streams_in r) (streams_stand m g.S.ResendStore.stands_for _ r mine)) ∙ c.if-any_request.false in
    ap (λ b. if b then Some 0 else None) (sym none)
