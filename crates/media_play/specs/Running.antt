-- What a run knows of the steps that it played.
use Rattle.std.specs.Prelude.{◌≡◌, ◌+◌, ◌≤◌, ◌⊎◌, ℕ, Bool, List, [], ◌∷◌, ◌++◌, length, map, take, slice_get, Option, Some, None, is_some, Result, Ok, Err}
use Rattle.std.specs.Borrow.{Bor}
use Rattle.std.specs.Iterator.{Yields}
use Rattle.srtp_core.specs.Cipher.{CipherMeaning}
use Rattle.media_laws.specs.declared.counter.Counter.{Counter}
use Rattle.run_model.specs.Whole.{Session}
use Rattle.media_model.specs.declared.entry.Side.{Side}
use Rattle.media_model.specs.declared.entry.Side.TheVariants.{A, B}
use Rattle.media_model.specs.declared.entry.Entry.{Entry}
use Rattle.media_model.specs.declared.transcript.Transcript.{Transcript}
use Rattle.media_model.specs.declared.step.Step.{Step}
use Rattle.media_model.specs.declared.setup.Setup.{Setup}
use Rattle.media_play.specs.declared.fault.StepError.{StepError}
use Rattle.media_play.specs.declared.fault.StepError.TheVariants as step
use Rattle.media_play.specs.declared.fault.RunError.{RunError}
use Rattle.media_play.specs.declared.fault.RunFault.{RunFault}
use Rattle.media_play.specs.declared.fault.RunError.TheVariants as error
use Rattle.media_model.specs.Entries.{last_time}
use Rattle.media_play.specs.Errors.{IsStepCause}
use Rattle.media_laws.specs.Exhausting.{Exhausts, IsUsedUp}
use Rattle.media_laws.specs.Headline.{StepsAreAnswered, StepsAreAnsweredToKey, HoldsOfRun, HoldsToKey}
use Rattle.media_laws.specs.Opening.{Sealing}
use Rattle.media_laws.specs.Play.{Outcome, Plays as PlaysIn, Played}
use Rattle.media_laws.specs.Rules.{step_fault}
use Rattle.media_laws.specs.Keys.{sealing_of}
use Rattle.media_play.specs.Sessions.{EndState, Ready}
use Rattle.setup_rules.specs.SetupRules.{setup_fault}

-- the two ends, the entries so far and the time of the last step
pub record RunState : Type 0 where
  pub a : EndState
  pub b : EndState
  pub log : List Entry
  pub latest : ℕ

-- a run: the same, and whether it is stopped
pub record RunView : Type 0 where
  pub state : RunState
  pub stopped : Bool

-- of a run that is stopped these many entries are told
abbrev pub told_of : Option ℕ → List Entry → List Entry
told_of None log = log
told_of (Some told) log = take told log

abbrev pub run_view : RunState → Option ℕ → RunView
run_view state told = record { state = record state { log = told_of told state.log }; stopped = is_some told }

-- a run of a setup after these steps: the setup breaks no rule, the entries are those that the
-- steps brought, and the two ends stand for the plain sessions that played them
pub record IsRunOf (cipher : CipherMeaning) (setup : Setup) (steps : List Step)
    (run : RunState) : Type 0 where
  pub valid : setup_fault setup ≡ None
  pub a : Session
  pub b : Session
  pub plays : PlaysIn (sealing_of cipher setup) setup a b steps run.log
  pub a_knows : Ready cipher setup A run.a a run.log
  pub b_knows : Ready cipher setup B run.b b run.log
  pub time : run.latest ≡ last_time run.log
  pub a_time : a.rx.now ≤ run.latest
  pub b_time : b.rx.now ≤ run.latest

-- one step more: it breaks no rule, the run has played it too, and its entries are those before and
-- what the step brings
pub record PlaysOn (cipher : CipherMeaning) (setup : Setup) (steps : List Step) (old : RunState)
    (step : Step) (new : RunState) : Type 0 where
  pub valid : step_fault setup old.log step ≡ None
  pub is_run : IsRunOf cipher setup (steps ++ step ∷ []) new
  pub side : Side
  pub before : Session
  pub after : Session
  pub brought : List Entry
  pub outcome : Outcome (sealing_of cipher setup) setup old.log side before step after brought
  pub added : new.log ≡ old.log ++ brought

-- a run of any setup plays a step
abbrev pub Plays : CipherMeaning → RunState → Step → RunState → Type 0
Plays cipher old step new =
    (setup : Setup) (steps : List Step) → IsRunOf cipher setup steps old
    → PlaysOn cipher setup steps old step new

-- a run of any setup refuses a step for this cause, and these are the entries then: those before it, and what is told of it
abbrev pub Refuses : CipherMeaning → RunState → Step → StepError → List Entry → Type 0
Refuses cipher run step cause entries =
    (setup : Setup) (steps : List Step) → IsRunOf cipher setup steps run
    → (told : List Entry) × (entries ≡ run.log ++ told) × IsStepCause cipher setup run.log step cause told

-- why no run of a setup begins: the first rule that it breaks; memory may run out
abbrev pub IsSetupCause : Setup → RunError → Type 0
IsSetupCause setup (error.Setup fault) = setup_fault setup ≡ Some fault
IsSetupCause setup (error.Step number fault) = ⊥
IsSetupCause setup (error.KeyExhausted side counter) = ⊥
IsSetupCause setup error.Memory = Unit {0}

-- why a run ended whose step of this number was not played
abbrev pub run_cause : ℕ → StepError → RunError
run_cause number (step.Rule fault) = error.Step number fault
run_cause number (step.KeyExhausted side counter) = error.KeyExhausted side counter
run_cause number _ = error.Memory

-- a step that breaks no rule after the entries of those before it has a side seal behind the last
-- number of a key, and the entries are those and what is told of it
pub record StopsAtKey (cipher : CipherMeaning) (setup : Setup) (before : List Step) (step : Step) (entries : List Entry)
    (side : Side) (counter : Counter) : Type 0 where
  pub past : List Entry
  pub played : Played (sealing_of cipher setup) setup before past
  pub valid : step_fault setup past step ≡ None
  pub told : List Entry
  pub exhausts : Exhausts (sealing_of cipher setup) setup past step side counter told
  pub entries_are : entries ≡ past ++ told

-- a step of a list did so, behind those before it
pub record EndsAtKey (cipher : CipherMeaning) (setup : Setup) (steps : List Step) (entries : List Entry) (side : Side)
    (counter : Counter) : Type 0 where
  pub before : ℕ
  pub step : Step
  pub stands : slice_get steps before ≡ Some step
  pub stops : StopsAtKey cipher setup (take before steps) step entries side counter

-- why a run of a list of steps ended, and what it brought until then: nothing for a setup that breaks
-- a rule; all steps before the one that breaks a rule, which is the first one, or that finds a key
-- used up; without memory some steps at the front
abbrev pub HasCause : CipherMeaning → Setup → List Step → List Entry → RunError → Type 0
HasCause cipher setup steps entries (error.Setup fault) =
    (setup_fault setup ≡ Some fault) × (entries ≡ [])
HasCause cipher setup steps entries (error.Step number fault) =
    (setup_fault setup ≡ None) × ((before : ℕ) × (step : Step) × (number ≡ before + 1)
    × (slice_get steps before ≡ Some step)
    × Played (sealing_of cipher setup) setup (take before steps) entries × (step_fault setup entries step ≡ Some fault))
HasCause cipher setup steps entries (error.KeyExhausted side counter) =
    (setup_fault setup ≡ None) × EndsAtKey cipher setup steps entries side counter
HasCause cipher setup steps entries error.Memory =
    (played : ℕ) × (played ≤ length steps) × Played (sealing_of cipher setup) setup (take played steps) entries

-- calls of an iterator gave these steps, one after another
abbrev pub Gave : {S : Type 0} → (S → Option (Bor Step) → S → Type 0) → S → List Step → S → Type 0
Gave next old steps new = (given : List (Bor Step)) × Yields next old given new × (map (λ s. s.now) given ≡ steps)

-- an iterator gave these steps and then none, and they were played
abbrev pub PlaysGiven : {S : Type 0} → Sealing → Setup → (S → Option (Bor Step) → S → Type 0) → S → S → List Entry → Type 0
PlaysGiven {S} seal setup next old new entries =
    (steps : List Step) × (last : S) × Gave next old steps last × next last None new × Played seal setup steps entries

-- why a run ended at a step that is the one behind these, and what it brought until then: all steps
-- before it were played
abbrev pub EndsBehind : CipherMeaning → Setup → List Step → Step → List Entry → RunError → Type 0
EndsBehind cipher setup before step entries (error.Setup fault) = ⊥
EndsBehind cipher setup before step entries (error.Step number fault) =
    (number ≡ length before + 1) × Played (sealing_of cipher setup) setup before entries × (step_fault setup entries step ≡ Some fault)
EndsBehind cipher setup before step entries (error.KeyExhausted side counter) =
    StopsAtKey cipher setup before step entries side counter
EndsBehind cipher setup before step entries error.Memory = Played (sealing_of cipher setup) setup before entries

-- why a run ended that took its steps from an iterator, and what it brought until then: it took none
-- and did not begin; or it began, and ended at the last one that it took
abbrev pub EndsAmong : {S : Type 0} → CipherMeaning → Setup → (S → Option (Bor Step) → S → Type 0) → S → S → List Entry → RunError → Type 0
EndsAmong cipher setup next old new entries cause =
    ((new ≡ old) × IsSetupCause setup cause × (entries ≡ []))
    ⊎ ((setup_fault setup ≡ None) × ((before : List Step) × (step : Step) × Gave next old (before ++ step ∷ []) new
    × EndsBehind cipher setup before step entries cause))

-- no step breaks a rule after the entries that the steps before it brought
abbrev pub AreValidSteps : CipherMeaning → Setup → List Step → Type 0
AreValidSteps cipher setup steps =
    (before : ℕ) (step : Step) (entries : List Entry) → slice_get steps before ≡ Some step
    → Played (sealing_of cipher setup) setup (take before steps) entries → step_fault setup entries step ≡ None

-- what holds of the entries of a run, whether it came to its end or not
abbrev pub OfRun : Result Transcript RunFault → (List Entry → Type 0) → Type 0
OfRun (Ok entries) P = P entries
OfRun (Err fault) P = P fault.sofar

-- each step is answered; of a run that found a key used up each but the last, and that one in part
abbrev pub AnsweredUntil : Sealing → Setup → RunError → List Entry → Type 0
AnsweredUntil seal setup (error.KeyExhausted side counter) entries = StepsAreAnsweredToKey seal setup entries
AnsweredUntil seal setup cause entries = StepsAreAnswered seal setup entries

abbrev pub Answered : Sealing → Setup → Result Transcript RunFault → Type 0
Answered seal setup (Ok entries) = StepsAreAnswered seal setup entries
Answered seal setup (Err fault) = AnsweredUntil seal setup fault.cause fault.sofar

-- all that holds of the entries of a run that ended so
abbrev pub HoldsUntil : Sealing → Setup → RunError → List Entry → Type 0
HoldsUntil seal setup (error.KeyExhausted side counter) entries = HoldsToKey seal setup side counter entries
HoldsUntil seal setup cause entries = HoldsOfRun seal setup entries

abbrev pub Holds : Sealing → Setup → Result Transcript RunFault → Type 0
Holds seal setup (Ok entries) = HoldsOfRun seal setup entries
Holds seal setup (Err fault) = HoldsUntil seal setup fault.cause fault.sofar

-- after the entries of a run that found a key used up its side has no number of the counter left
abbrev pub UsedUp : Setup → List Entry → RunError → Type 0
UsedUp setup entries (error.KeyExhausted side counter) = IsUsedUp setup side counter entries
UsedUp setup entries cause = Unit {0}
