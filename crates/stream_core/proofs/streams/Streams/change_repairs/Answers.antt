use Rattle.std.proofs.Common.{refl, sym}
use Rattle.stream_core.proofs.StreamsSteps.{repairs_moved, repairs_absent}
use Rattle.stream_core.proofs.streams.Streams.change_repairs.Goals as goal

pub returns-clause-ok : goal.returns-clause-ok
returns-clause-ok g c = λ r h.
    repairs_moved g.W.GapWindow.remembers g.S.ResendStore.stands_for c.args.change.now c.args.self.now _ c.change_repairs.new.self c.self.view_is c.in_ok-change_repairs.ensures.ok r h
    c.in-Some.place c.at_mut.result.now c.change_rtx.new.self _ (sym c.in-Some.ensures.place) c.at_mut.ensures.value c.change_rtx.ensures refl

pub returns-in_default-clause-ok : goal.returns-in_default-clause-ok
returns-in_default-clause-ok g c = λ r h.
    repairs_absent g.W.GapWindow.remembers g.S.ResendStore.stands_for c.args.change.now c.args.self.now _ c.change_repairs.new.self c.self.view_is c.in_ok-change_repairs.ensures.ok r h
    (sym c.in_default.ensures.place)
