use Rattle.std.proofs.Common.{List, subst}
use Rattle.std.specs.Slice.Iter.{iter_rest}
use Rattle.media_model.specs.declared.step.Step.{Step}
use Rattle.media_laws.specs.Headline.{PlaysSteps}
use Rattle.uses_of_runs.proofs.cite_the_laws.played_to_the_end.Goals as goal

-- the steps of the slice are those that its iterator gave
pub returns-in-Ok-clause-steps : goal.returns-in-Ok-clause-steps
returns-in-Ok-clause-steps g c =
    let setup = c.args.setup.now in
    let given = c.iter-given.result in
    let transcript = c.in-Ok.transcript in
    let played = c.runs_of_slices.ensures.played setup given c.media_run.new.steps transcript c.in-Ok.ensures.played.1 in
    subst (λ (steps : List Step). PlaysSteps steps transcript) c.iter-given.ensures.rest (c.plays_steps.ensures.whole setup (iter_rest given) transcript played)
