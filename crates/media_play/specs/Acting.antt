-- What an act of an end brings, and why it is refused.
use Rattle.std.specs.Prelude.{◌≡◌, ◌≢◌, ℕ, false, List, ◌++◌, Some, None, []}
use Rattle.srtp_core.specs.Cipher.{CipherMeaning}
use Rattle.media_model.specs.declared.entry.Side.{Side}
use Rattle.media_model.specs.declared.entry.Entry.{Entry}
use Rattle.media_model.specs.declared.step.Act.{Act}
use Rattle.media_model.specs.declared.setup.Setup.{Setup}
use Rattle.media_model.specs.Steps.{step_at}
use Rattle.run_model.specs.Whole.{Session}
use Rattle.media_laws.specs.Exhausting.{ActExhausts}
use Rattle.media_laws.specs.Feedback.{next_index}
use Rattle.media_laws.specs.Keys.{sealing_of}
use Rattle.media_laws.specs.Play.{AreEntriesOf}
use Rattle.media_laws.specs.Rules.{act_fault}
use Rattle.media_play.specs.declared.fault.StepError.{StepError}
use Rattle.media_play.specs.declared.fault.StepError.TheVariants.{Memory, Rule, KeyExhausted, Stopped}
use Rattle.media_play.specs.Errors.{stops_at}
use Rattle.media_play.specs.Sessions.{EndState, ReadyAt, TurnsOn}

-- an act of a side breaks no rule, brings these entries, which are an act's, and is a turn of its end
pub record ActsOn (cipher : CipherMeaning) (setup : Setup) (side : Side) (a : Session) (new : EndState) (entries : List Entry)
    (time : ℕ) (act : Act) (chunk : List Entry) : Type 0 where
  pub valid : act_fault setup entries side act ≡ None
  pub are_of : AreEntriesOf (sealing_of cipher setup) setup entries side (step_at side time act) chunk
  pub turns : TurnsOn cipher setup side a new entries chunk

-- an end that is ready at a moment acts, and the log is the entries before and what the act brings
abbrev pub Acts : CipherMeaning → EndState → EndState → List Entry → List Entry → Side → ℕ → Act → Type 0
Acts cipher old new entries log side time act =
    (setup : Setup) (a : Session) → ReadyAt cipher setup side old a entries time → a.rtcp ≡ next_index setup side entries
    → (chunk : List Entry) × (log ≡ entries ++ chunk) × ActsOn cipher setup side a new entries time act chunk

-- why an act is refused, and what is told of it: of one that breaks a rule nothing; of one that finds a key used up what it brings
-- until then; memory may run out
abbrev pub IsActCause : CipherMeaning → Setup → Side → Session → List Entry → ℕ → Act → StepError → List Entry → Type 0
IsActCause cipher setup side a entries time act Memory told = Unit {0}
IsActCause cipher setup side a entries time act (Rule fault) told = (act_fault setup entries side act ≡ Some fault) × (told ≡ [])
IsActCause cipher setup side a entries time act (KeyExhausted by counter) told =
    (by ≡ side) × (act_fault setup entries side act ≡ None)
    × ActExhausts (sealing_of cipher setup) setup entries side a time act counter told
IsActCause cipher setup side a entries time act Stopped told = ⊥

-- an end refuses an act for this cause; one that breaks a rule changes nothing
pub record RefusesAct (cipher : CipherMeaning) (old new : EndState) (entries log : List Entry) (side : Side) (time : ℕ) (act : Act)
    (cause : StepError) : Type 0 where
  pub goes : cause ≢ Stopped
  pub unchanged : stops_at cause ≡ false → (new ≡ old) × (log ≡ entries)
  pub causes : (setup : Setup) (a : Session) → ReadyAt cipher setup side old a entries time → a.rtcp ≡ next_index setup side entries
      → (told : List Entry) × (log ≡ entries ++ told) × IsActCause cipher setup side a entries time act cause told
