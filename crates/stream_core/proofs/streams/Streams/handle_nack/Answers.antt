use Rattle.std.proofs.Common.{sym, ◌∙◌}
use Rattle.stream_core.proofs.Alongside.{set_same}
use Rattle.stream_core.proofs.RepairSteps.{on_err, nack_heard, nack_lost}
use Rattle.stream_core.proofs.streams.Streams.handle_nack.Goals as goal

pub returns-in_err-handle_nack-in-Some-clause-err : goal.returns-in_err-handle_nack-in-Some-clause-err
returns-in_err-handle_nack-in-Some-clause-err g c =
    let same = set_same c.self.inside.repairs c.in-Some.at c.at_mut.result.now c.handle_nack.new.self c.at_mut.ensures.value c.in_err-handle_nack-in-Some.ensures.err in
    on_err c.from_residual.result _ ((λ j. record { threshold = c.self.inside.pause_threshold; rx = c.self.inside.rx; known = c.self.inside.known; tx = c.self.inside.tx; repairs = same j }) ∙ c.self.view_is)

pub returns-in_ok-handle_nack-in-Some-clause-ok : goal.returns-in_ok-handle_nack-in-Some-clause-ok
returns-in_ok-handle_nack-in-Some-clause-ok g c =
    nack_heard g.W.GapWindow.remembers g.S.ResendStore.stands_for c.args.self.now _ c.self.view_is c.args.ssrc c.in-Some.at c.at_mut.result.now
    (sym c.place.ensures.place ∙ c.in-Some.is) c.at_mut.ensures.value c.handle_nack.new.self c.args.now c.args.entries.now c.in_ok-handle_nack-in-Some.ensures.ok

pub returns-in-None-clause-ok : goal.returns-in-None-clause-ok
returns-in-None-clause-ok g c =
    nack_lost g.W.GapWindow.remembers g.S.ResendStore.stands_for c.args.self.now _ c.self.view_is c.args.ssrc c.args.now c.args.entries.now (sym c.place.ensures.place ∙ c.in-None.is)
