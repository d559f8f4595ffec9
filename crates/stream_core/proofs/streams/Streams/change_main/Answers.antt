use Rattle.std.proofs.Common.{refl, sym, ◌∙◌}
use Rattle.stream_core.proofs.StreamsSteps.{main_there, main_absent, main_moved}
use Rattle.stream_core.proofs.streams.Streams.change_main.Goals as goal

pub returns-then-is_some-clause-ok : goal.returns-then-is_some-clause-ok
returns-then-is_some-clause-ok g c =
    main_there g.W.GapWindow.remembers g.S.ResendStore.stands_for c.args.change.now c.args.self.now _ c.place.result
    c.self.view_is c.place.ensures.place (sym c.is_some.ensures ∙ c.if-is_some.true)

pub returns-in_default-clause-ok : goal.returns-in_default-clause-ok
returns-in_default-clause-ok g c = λ r h.
    main_absent g.W.GapWindow.remembers g.S.ResendStore.stands_for c.args.change.now c.args.self.now _ c.place.result
    c.self.view_is c.place.ensures.place (sym c.is_some.ensures ∙ c.if-is_some.false) r h (sym c.in_default.ensures.place)

pub returns-clause-ok : goal.returns-clause-ok
returns-clause-ok g c = λ r h.
    main_moved g.W.GapWindow.remembers g.S.ResendStore.stands_for c.args.change.now c.args.self.now _ c.place.result
    c.self.view_is c.place.ensures.place (sym c.is_some.ensures ∙ c.if-is_some.false) r h
    c.in-Some.place c.at_mut.result.now c.change_ssrc.new.self c.rename.new.self _ c.change_main.new.self
    (sym c.in-Some.ensures.place) c.in_ok-rename.ensures.ok c.at_mut.ensures.value c.change_ssrc.ensures refl c.change_main.ensures
