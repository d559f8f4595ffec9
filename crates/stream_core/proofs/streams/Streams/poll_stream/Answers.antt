use Rattle.std.proofs.Common.{sym, ap, ◌∙◌, take}
use Rattle.std.proofs.lemmas.Result.{IfOk-weaker, on_ok_weaker, on_err_weaker}
use Rattle.stream_core.specs.StreamsRecord.{StreamsView, is_asked}
use Rattle.stream_core.proofs.Alongside.{set_same}
use Rattle.stream_core.proofs.RepairSteps.{take_set, asked_before}
use Rattle.stream_core.proofs.PollSteps.{polls_there, stays_there, used_there, ready_there, fewer_there, both_ok, polls_alone, stays_alone, fewer_alone}
use Rattle.stream_core.proofs.streams.Streams.poll_stream.Goals as goal

pub returns-in-Some-clause-polled : goal.returns-in-Some-clause-polled
returns-in-Some-clause-polled g c =
    let f = c.in-Some.ensures.found in
    IfOk-weaker c.poll_both.result _ _
    (λ o step. polls_there g.W.GapWindow.remembers g.S.ResendStore.stands_for c.args.self.now _ c.self.view_is c.args.types.now c.args.transport.now c.args.now c.args.place
    c.at_mut-stream.result.now c.at_mut-stream.ensures.value _ _ c.at_mut-repairs.result.now f.0 f.1 c.at_mut-repairs.ensures.value c.poll_both.new.stream c.poll_both.new.repairs o step)
    c.poll_both.ensures.polled

pub returns-in-Some-clause-fewer : goal.returns-in-Some-clause-fewer
returns-in-Some-clause-fewer g c =
    let f = c.in-Some.ensures.found in
    on_ok_weaker c.poll_both.result
    (λ fewer. fewer_there g.W.GapWindow.remembers g.S.ResendStore.stands_for c.args.self.now _ c.self.view_is c.args.types.now c.args.transport.now c.args.now c.args.place
    c.at_mut-stream.result.now c.at_mut-stream.ensures.value _ _ c.at_mut-repairs.result.now f.0 f.1 c.at_mut-repairs.ensures.value c.poll_both.new.stream c.poll_both.new.repairs fewer)
    c.poll_both.ensures.fewer

pub returns-in-Some-clause-before : goal.returns-in-Some-clause-before
returns-in-Some-clause-before g c =
    take_set c.self.inside.tx c.args.place c.poll_both.new.stream ∙ ap (λ (v : StreamsView g.row.W.Denot g.row.S.Denot). take c.args.place v.tx) c.self.view_is

pub returns-in-Some-clause-asked : goal.returns-in-Some-clause-asked
returns-in-Some-clause-asked g c = λ x h.
    ap (λ (v : StreamsView g.row.W.Denot g.row.S.Denot). is_asked v.repairs x) (sym c.self.view_is)
    ∙ asked_before c.at_mut-repairs.result.now c.poll_both.new.repairs c.poll_both.ensures.asked c.self.inside.repairs _ x c.at_mut-repairs.ensures.value h

pub returns-in-Some-clause-exhausted : goal.returns-in-Some-clause-exhausted
returns-in-Some-clause-exhausted g c = λ e.
    let f = c.in-Some.ensures.found in
    let last = c.poll_both.ensures.exhausted e in
    let tx = set_same c.self.inside.tx c.args.place c.at_mut-stream.result.now c.poll_both.new.stream c.at_mut-stream.ensures.value last.0 in
    let repairs = set_same c.self.inside.repairs _ c.at_mut-repairs.result.now c.poll_both.new.repairs c.at_mut-repairs.ensures.value last.1 in (
      (λ j. record { threshold = c.self.inside.pause_threshold; rx = c.self.inside.rx; known = c.self.inside.known; tx = tx j; repairs = repairs j }) ∙ c.self.view_is,
      used_there g.W.GapWindow.remembers g.S.ResendStore.stands_for c.args.self.now _ c.self.view_is c.args.types.now c.args.transport.now c.args.now c.args.place
          c.at_mut-stream.result.now c.at_mut-stream.ensures.value _ _ c.at_mut-repairs.result.now f.0 f.1 c.at_mut-repairs.ensures.value last.2,
    )

pub returns-in-Some-clause-failed : goal.returns-in-Some-clause-failed
returns-in-Some-clause-failed g c =
    let f = c.in-Some.ensures.found in
    on_err_weaker c.poll_both.result
    (λ step. stays_there g.W.GapWindow.remembers g.S.ResendStore.stands_for c.args.self.now _ c.self.view_is c.args.types.now c.args.transport.now c.args.now c.args.place
    c.at_mut-stream.result.now c.at_mut-stream.ensures.value _ _ c.at_mut-repairs.result.now f.0 f.1 c.at_mut-repairs.ensures.value c.poll_both.new.stream c.poll_both.new.repairs step.0 step.1)
    c.poll_both.ensures.failed

pub returns-in-Some-clause-cause : goal.returns-in-Some-clause-cause
returns-in-Some-clause-cause g c =
    let f = c.in-Some.ensures.found in
    on_err_weaker c.poll_both.result
    (ready_there g.W.GapWindow.remembers g.S.ResendStore.stands_for c.args.self.now _ c.self.view_is c.args.types.now c.args.transport.now c.args.now c.args.place
    c.at_mut-stream.result.now c.at_mut-stream.ensures.value _ _ c.at_mut-repairs.result.now f.0 f.1 c.at_mut-repairs.ensures.value)
    c.poll_both.ensures.cause

pub returns-in-None-clause-polled : goal.returns-in-None-clause-polled
returns-in-None-clause-polled g c =
    both_ok c.poll_alone.result _ _ _
    (λ o given after. polls_alone g.W.GapWindow.remembers g.S.ResendStore.stands_for c.args.self.now _ c.self.view_is c.args.types.now c.args.transport.now c.args.now c.args.place
    c.at_mut-stream.result.now c.at_mut-stream.ensures.value c.in-None.ensures.none c.poll_alone.new.stream o given after)
    c.poll_alone.ensures.polled c.poll_alone.ensures.after

pub returns-in-None-clause-fewer : goal.returns-in-None-clause-fewer
returns-in-None-clause-fewer g c =
    on_ok_weaker c.poll_alone.result
    (λ after. fewer_alone g.W.GapWindow.remembers g.S.ResendStore.stands_for c.args.self.now _ c.self.view_is c.args.types.now c.args.transport.now c.args.now c.args.place
    c.at_mut-stream.result.now c.at_mut-stream.ensures.value c.in-None.ensures.none c.poll_alone.new.stream after)
    c.poll_alone.ensures.after

pub returns-in-None-clause-before : goal.returns-in-None-clause-before
returns-in-None-clause-before g c =
    take_set c.self.inside.tx c.args.place c.poll_alone.new.stream ∙ ap (λ (v : StreamsView g.row.W.Denot g.row.S.Denot). take c.args.place v.tx) c.self.view_is

pub returns-in-None-clause-failed : goal.returns-in-None-clause-failed
returns-in-None-clause-failed g c =
    on_err_weaker c.poll_alone.result
    (λ same. stays_alone g.W.GapWindow.remembers g.S.ResendStore.stands_for c.args.self.now _ c.self.view_is c.args.types.now c.args.transport.now c.args.now c.args.place
    c.at_mut-stream.result.now c.at_mut-stream.ensures.value c.in-None.ensures.none c.poll_alone.new.stream same)
    c.poll_alone.ensures.err
