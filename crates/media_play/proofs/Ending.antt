-- What a run of steps is wherever it ends.
use Rattle.std.proofs.Common.{◌≡◌, ◌+◌, ℕ, List, [], ◌++◌, length, Some, Result, Ok, Err, IfErr, refl, sym, ap, ◌∙◌, subst}
use Rattle.std.proofs.lemmas.List.{append-nil}
use Rattle.srtp_core.specs.Cipher.{CipherMeaning}
use Rattle.media_model.specs.declared.entry.Side.{Side}
use Rattle.media_model.specs.declared.entry.Entry.{Entry}
use Rattle.media_model.specs.declared.step.Step.{Step}
use Rattle.media_model.specs.declared.setup.Setup.{Setup}
use Rattle.media_model.specs.declared.transcript.Transcript.{Transcript}
use Rattle.media_laws.specs.declared.counter.Counter.{Counter}
use Rattle.media_laws.specs.declared.fault.StepFault.{StepFault}
use Rattle.media_laws.specs.Exhausting.{Exhausts}
use Rattle.media_laws.specs.Headline.{HoldsOfRun, HoldsToKey}
use Rattle.media_laws.specs.Keys.{sealing_of}
use Rattle.media_laws.specs.Opening.{Sealing}
use Rattle.media_laws.specs.Play.{Played}
use Rattle.media_laws.specs.Rules.{step_fault}
use Rattle.media_play.specs.declared.fault.RunError.{RunError}
use Rattle.media_play.specs.declared.fault.RunError.TheVariants as error
use Rattle.media_play.specs.declared.fault.RunFault.{RunFault}
use Rattle.media_play.specs.declared.fault.StepError.{StepError}
use Rattle.media_play.specs.declared.fault.StepError.TheVariants.{Memory, Rule, KeyExhausted, Stopped}
use Rattle.media_play.specs.Running.{RunState, IsRunOf, EndsBehind, AnsweredUntil, Answered, HoldsUntil, Holds, UsedUp, OfRun, IsSetupCause, run_cause}
use Rattle.media_play.proofs.Steps.{Tells}

pub played_of : {cipher : CipherMeaning} {setup : Setup} {steps : List Step} {run : RunState} → IsRunOf cipher setup steps run
    → Played (sealing_of cipher setup) setup steps run.log
played_of r = record { a = r.a; b = r.b; plays = r.plays }

module _ (cipher : CipherMeaning) (setup : Setup) where
  -- of a step that breaks a rule nothing is told
  rule_same : (past entries : List Entry) (step : Step) (fault : StepFault) → Tells cipher setup past step (Rule fault) entries → entries ≡ past
  rule_same past entries step fault tells = tells.1 ∙ ap (λ (told : List Entry). past ++ told) tells.2.1 ∙ append-nil past

  -- what holds of the entries before a step that is not played holds of those then; or what holds to a key's end
  pub holds_at : (number : ℕ) (step : Step) (past entries : List Entry) (cause : StepError) → Tells cipher setup past step cause entries → (cause ≡ Memory → entries ≡ past)
      → HoldsOfRun (sealing_of cipher setup) setup past
      → ((side : Side) (counter : Counter) (told : List Entry) → Exhausts (sealing_of cipher setup) setup past step side counter told
      → HoldsToKey (sealing_of cipher setup) setup side counter (past ++ told))
      → HoldsUntil (sealing_of cipher setup) setup (run_cause number cause) entries
  holds_at number step past entries (Rule fault) tells cut h at_key =
      subst (HoldsOfRun (sealing_of cipher setup) setup) (sym (rule_same past entries step fault tells)) h
  holds_at number step past entries (KeyExhausted side counter) tells cut h at_key =
      subst (HoldsToKey (sealing_of cipher setup) setup side counter) (sym tells.1) (at_key side counter tells.0 tells.2.1)
  holds_at number step past entries Memory tells cut h at_key = subst (HoldsOfRun (sealing_of cipher setup) setup) (sym (cut refl)) h
  holds_at number step past entries Stopped tells cut h at_key = absurd tells.2

  -- a step that is not played ends the run, behind those before it
  pub ends_behind : (before : List Step) (step : Step) (number : ℕ) (past entries : List Entry) (cause : StepError) → number ≡ length before + 1
      → Played (sealing_of cipher setup) setup before past → Tells cipher setup past step cause entries → (cause ≡ Memory → entries ≡ past)
      → EndsBehind cipher setup before step entries (run_cause number cause)
  ends_behind before step number past entries (Rule fault) at played tells cut =
      let same = rule_same past entries step fault tells in (
        at,
        subst (Played (sealing_of cipher setup) setup before) (sym same) played,
        subst (λ (es : List Entry). step_fault setup es step ≡ Some fault) (sym same) tells.2.0,
      )
  ends_behind before step number past entries (KeyExhausted side counter) at played tells cut = record {
    past = past;
    played = played;
    valid = tells.2.0;
    told = tells.0;
    exhausts = tells.2.1;
    entries_are = tells.1;
  }
  ends_behind before step number past entries Memory at played tells cut = subst (Played (sealing_of cipher setup) setup before) (sym (cut refl)) played
  ends_behind before step number past entries Stopped at played tells cut = absurd tells.2

module _ (seal : Sealing) (setup : Setup) where
  -- all of it holds of nothing
  holds_of_nothing : (entries : List Entry) → entries ≡ [] → HoldsOfRun seal setup entries
  holds_of_nothing entries none = subst (HoldsOfRun seal setup) (sym none) (record {
    steps = tt;
    seals = tt;
    nonces = λ side. tt;
    sendings = tt;
    yields = λ genuine widens. tt;
    once = λ side. tt;
    exactly = tt;
  })

  -- where no run begins
  pub none_holds : (entries : List Entry) (cause : RunError) → entries ≡ [] → IsSetupCause setup cause → HoldsUntil seal setup cause entries
  none_holds entries (error.Setup fault) none h = holds_of_nothing entries none
  none_holds entries (error.Step number fault) none h = absurd h
  none_holds entries (error.KeyExhausted side counter) none h = absurd h
  none_holds entries error.Memory none h = holds_of_nothing entries none

  answered_until : (cause : RunError) (entries : List Entry) → HoldsUntil seal setup cause entries → AnsweredUntil seal setup cause entries
  answered_until (error.Setup fault) entries h = h.steps
  answered_until (error.Step number fault) entries h = h.steps
  answered_until (error.KeyExhausted side counter) entries h = h.steps
  answered_until error.Memory entries h = h.steps

  pub answered : (result : Result Transcript RunFault) → Holds seal setup result → Answered seal setup result
  answered (Ok entries) h = h.steps
  answered (Err fault) h = answered_until fault.cause fault.sofar h

  used_up_until : (cause : RunError) (entries : List Entry) → HoldsUntil seal setup cause entries → UsedUp setup entries cause
  used_up_until (error.Setup fault) entries h = tt
  used_up_until (error.Step number fault) entries h = tt
  used_up_until (error.KeyExhausted side counter) entries h = h.used_up
  used_up_until error.Memory entries h = tt

  pub used_up : (result : Result Transcript RunFault) → Holds seal setup result → IfErr result (λ (f : RunFault). UsedUp setup f.sofar f.cause)
  used_up (Ok entries) h = tt
  used_up (Err fault) h = used_up_until fault.cause fault.sofar h

  -- what follows both from what holds of a run and from what holds to a key's end holds of it
  module _ {P : List Entry → Type 0} (of_run : (entries : List Entry) → HoldsOfRun seal setup entries → P entries)
      (to_key : (side : Side) (counter : Counter) (entries : List Entry) → HoldsToKey seal setup side counter entries → P entries) where
    each_until : (cause : RunError) (entries : List Entry) → HoldsUntil seal setup cause entries → P entries
    each_until (error.Setup fault) entries h = of_run entries h
    each_until (error.Step number fault) entries h = of_run entries h
    each_until (error.KeyExhausted side counter) entries h = to_key side counter entries h
    each_until error.Memory entries h = of_run entries h

    pub each_of : (result : Result Transcript RunFault) → Holds seal setup result → OfRun result P
    each_of (Ok entries) h = of_run entries h
    each_of (Err fault) h = each_until fault.cause fault.sofar h
