use Rattle.std.proofs.Common.{◌+◌, inl, inr, List, [], ◌∷◌, ◌++◌, refl, sym, subst, length-append, arith}
use Rattle.media_model.specs.declared.entry.Entry.{Entry}
use Rattle.media_model.specs.declared.step.Step.{Step}
use Rattle.media_play.specs.declared.fault.RunError.{RunError}
use Rattle.media_laws.specs.Headline.{HoldsOfRun}
use Rattle.media_laws.specs.Keys.{sealing_of}
use Rattle.media_laws.specs.Play.{Played}
use Rattle.media_play.specs.Running.{Gave, EndsBehind, HoldsUntil, IsRunOf}
use Rattle.media_play.proofs.Ending.{none_holds, ends_behind, holds_at, played_of}
use Rattle.media_play.proofs.Given.{steps_of, gave_more, as_many, one_more}
use Rattle.media_play.proofs.run.play_all.Goals as goal

pub returns-in-Err-clause-cause : goal.returns-in-Err-clause-cause
returns-in-Err-clause-cause g c = inl (refl, c.in-Err.ensures.cause, c.new-in-Err.ensures)

pub returns-in-Err-clause-holds : goal.returns-in-Err-clause-holds
returns-in-Err-clause-holds g c =
    let setup = c.args.setup.now in
    none_holds (sealing_of g.C.SrtpCipher.meaning setup) setup c.new-in-Err.result c.in-Err.cause c.new-in-Err.ensures c.in-Err.ensures.cause

pub loop-step-init : goal.loop-step-init
loop-step-init g c = ([], refl, c.requires.can, c.requires.finite, omega arith, refl, c.in-Ok.ensures.run, c.in-Ok.ensures.goes)

pub loop-step-preserved : goal.loop-step-preserved
loop-step-preserved g c =
    let K = g.C.SrtpCipher.meaning in
    let setup = c.args.setup.now in
    let inv = c.loop-step.invariant in
    let given = inv.0 in
    let step = c.in-Some.step in
    let on = c.in-Some.ensures.goes.on inv.3 in
    let longer = length-append given (step ∷ []) in (
      given ++ step ∷ [],
      gave_more g.I.Iterator.next_gives c.args.steps.now c.loop-step.steps c.next.new.self given step inv.1 c.in-Some.ensures.steps,
      on.0,
      on.1,
      omega arith,
      omega arith,
      subst (λ (steps : List Step). IsRunOf K setup steps c.play.new.self.state) (sym (one_more given step)) (c.in_default-play.ensures.played setup (steps_of given) inv.6).is_run,
      c.in_default-play.ensures.stops,
    )

pub returns-in-Err-play-clause-cause : goal.returns-in-Err-play-clause-cause
returns-in-Err-play-clause-cause g c =
    let K = g.C.SrtpCipher.meaning in
    let setup = c.args.setup.now in
    let inv = c.loop-step.invariant in
    let given = inv.0 in
    let step = c.in-Some.step in
    let run = inv.6 in
    let error = c.in-Err-play.error in
    let says = c.in-Err-play.ensures in
    let many = as_many given in
    let gave : Gave g.I.Iterator.next_gives c.args.steps.now (steps_of given ++ step.now ∷ []) c.next.new.self =
    (given ++ step ∷ [], gave_more g.I.Iterator.next_gives c.args.steps.now c.loop-step.steps c.next.new.self given step inv.1 c.in-Some.ensures.steps, one_more given step) in
    let ends = ends_behind K setup (steps_of given) step.now (c.loop-step.number + 1) c.loop-step.run.state.log c.play.new.self.state.log error (omega arith)
    (played_of run) (says.refused (λ e. absurd (cc (says.only e, inv.7))) setup (steps_of given) run) says.memory in
    inr (
      run.valid,
      (
        steps_of given,
        step.now,
        gave,
        subst (λ (es : List Entry). EndsBehind K setup (steps_of given) step.now es c.cause_at.result) (sym c.into_transcript.ensures)
            (subst (λ (x : RunError). EndsBehind K setup (steps_of given) step.now c.play.new.self.state.log x) (sym c.cause_at.ensures) ends),
      ),
    )

pub returns-in-Err-play-clause-holds : goal.returns-in-Err-play-clause-holds
returns-in-Err-play-clause-holds g c =
    let K = g.C.SrtpCipher.meaning in
    let setup = c.args.setup.now in
    let seal = sealing_of K setup in
    let inv = c.loop-step.invariant in
    let before = steps_of inv.0 in
    let log = c.loop-step.run.state.log in
    let step = c.in-Some.step.now in
    let run = inv.6 in
    let says = c.in-Err-play.ensures in
    let laws = c.holds_of_run.ensures in
    let holds = holds_at K setup (c.loop-step.number + 1) step log c.play.new.self.state.log c.in-Err-play.error (says.refused (λ e. absurd (cc (says.only e, inv.7))) setup before run) says.memory
    (laws.whole setup before log run.valid (played_of run)) (λ side counter told e. laws.exhausted setup before log step side counter told run.valid (played_of run) e) in
    subst (λ (es : List Entry). HoldsUntil seal setup c.cause_at.result es) (sym c.into_transcript.ensures)
    (subst (λ (x : RunError). HoldsUntil seal setup x c.play.new.self.state.log) (sym c.cause_at.ensures) holds)

pub returns-clause-holds : goal.returns-clause-holds
returns-clause-holds g c =
    let K = g.C.SrtpCipher.meaning in
    let setup = c.args.setup.now in
    let run = c.loop-step.invariant.6 in
    subst (λ (es : List Entry). HoldsOfRun (sealing_of K setup) setup es) (sym c.into_transcript-2.ensures)
    (c.holds_of_run.ensures.whole setup (steps_of c.loop-step.invariant.0) c.loop-step.run.state.log run.valid (played_of run))

pub returns-clause-played : goal.returns-clause-played
returns-clause-played g c =
    let inv = c.loop-step.invariant in
    let run = inv.6 in (
      steps_of inv.0,
      c.loop-step.steps,
      (inv.0, inv.1, refl),
      c.in_default.ensures.steps,
      subst (λ (es : List Entry). Played (sealing_of g.C.SrtpCipher.meaning c.args.setup.now) c.args.setup.now (steps_of inv.0) es) (sym c.into_transcript-2.ensures) (played_of run),
    )
