use Rattle.std.proofs.Common.{List, subst}
use Rattle.std.specs.Prelude.{IfErr}
use Rattle.media_model.specs.declared.step.Step.{Step as ScriptStep}
use Rattle.media_play.specs.Running.{HasCause}
use Rattle.mediasim.specs.RunCommand.{script_cipher}
use Rattle.mediasim.proofs.run_command.run_all.Goals as goal

pub returns-clause-cause : goal.returns-clause-cause
returns-clause-cause c =
    let setup = c.args.setup.now in
    subst (λ (steps : List ScriptStep). IfErr c.run_steps.result (λ f. HasCause (script_cipher setup) setup steps f.sofar f.cause))
    c.as_slice.ensures.value c.run_steps.ensures.cause
