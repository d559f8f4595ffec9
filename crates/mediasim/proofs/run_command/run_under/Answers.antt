use Rattle.std.proofs.Common.{◌≡◌, List, subst}
use Rattle.std.specs.Slice.Iter.{iter_rest}
use Rattle.std.proofs.lemmas.Result.{IfOk-weaker, IfErr-weaker}
use Rattle.media_model.specs.declared.step.Step.{Step as ScriptStep}
use Rattle.media_laws.specs.Keys.{sealing_of}
use Rattle.media_laws.specs.Play.{Played}
use Rattle.media_play.specs.Running.{HasCause}
use Rattle.mediasim.proofs.Runs.{all_holds}
use Rattle.mediasim.proofs.run_command.run_under.Goals as goal

pub returns : goal.returns
returns g c =
    let K = g.C.SrtpCipher.meaning in
    let setup = c.args.setup.now in
    let seal = sealing_of K setup in
    let r = c.media_run.result in
    let e = c.media_run.ensures in
    let law = c.runs_of_slices.ensures in
    let old = c.iter-given.result in
    let new = c.media_run.new.steps in
    let all : iter_rest old ≡ c.args.steps.now = c.iter-given.ensures.rest in
    record {
      played = IfOk-weaker r _ _ (λ t h. (h.0, subst (λ (steps : List ScriptStep). Played seal setup steps t) all (law.played setup old new t h.1))) e.played;
      cause = IfErr-weaker r _ _ (λ f h. subst (λ (steps : List ScriptStep). HasCause K setup steps f.sofar f.cause) all (law.cause setup old new f.sofar f.cause h)) e.cause;
      holds = all_holds _ setup r e.steps e.used_up e.seals e.nonces e.sendings e.yields e.once e.exactly;
    }
