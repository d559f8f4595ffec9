use Rattle.std.proofs.Common.{◌≡◌, None, sym, subst}
use Rattle.std.specs.Prelude.{IfOk, IfErr}
use Rattle.media_model.specs.declared.setup.CipherName.{CipherName}
use Rattle.media_laws.specs.Play.{Played}
use Rattle.media_play.specs.Running.{HasCause, Holds}
use Rattle.media_laws.specs.Keys.{sealing_of}
use Rattle.setup_rules.specs.SetupRules.{setup_fault}
use Rattle.mediasim.specs.RunCommand.{meaning_of}
use Rattle.mediasim.proofs.run_command.run_steps.Goals as goal

pub returns-in-Toy : goal.returns-in-Toy
returns-in-Toy c =
    let setup = c.args.setup.now in
    let steps = c.args.steps.now in
    let r = c.run_under.result in
    let e = c.run_under.ensures in
    let is = sym c.in-Toy.is in
    record {
      played = subst (λ (n : CipherName). IfOk r (λ t. (setup_fault setup ≡ None) × Played (sealing_of (meaning_of n) setup) setup steps t)) is e.played;
      cause = subst (λ (n : CipherName). IfErr r (λ f. HasCause (meaning_of n) setup steps f.sofar f.cause)) is e.cause;
      holds = subst (λ (n : CipherName). Holds (sealing_of (meaning_of n) setup) setup r) is e.holds;
    }

pub returns-in-Sha : goal.returns-in-Sha
returns-in-Sha c =
    let setup = c.args.setup.now in
    let steps = c.args.steps.now in
    let r = c.run_under-in-Sha.result in
    let e = c.run_under-in-Sha.ensures in
    let is = sym c.in-Sha.is in
    record {
      played = subst (λ (n : CipherName). IfOk r (λ t. (setup_fault setup ≡ None) × Played (sealing_of (meaning_of n) setup) setup steps t)) is e.played;
      cause = subst (λ (n : CipherName). IfErr r (λ f. HasCause (meaning_of n) setup steps f.sofar f.cause)) is e.cause;
      holds = subst (λ (n : CipherName). Holds (sealing_of (meaning_of n) setup) setup r) is e.holds;
    }
