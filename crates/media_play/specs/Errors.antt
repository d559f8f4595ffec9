-- Why a step is not played.
use Rattle.std.specs.Prelude.{◌≡◌, Bool, true, false, List, [], Some, None}
use Rattle.srtp_core.specs.Cipher.{CipherMeaning}
use Rattle.media_laws.specs.declared.counter.Counter.TheVariants as key
use Rattle.session_core.specs.declared.error.RtcError.{RtcError}
use Rattle.session_core.specs.declared.error.RtcError.TheVariants as rtc
use Rattle.media_model.specs.declared.entry.Side.{Side}
use Rattle.media_model.specs.declared.entry.Entry.{Entry}
use Rattle.media_model.specs.declared.step.Step.{Step}
use Rattle.media_model.specs.declared.setup.Setup.{Setup}
use Rattle.media_play.specs.declared.fault.StepError.{StepError}
use Rattle.media_play.specs.declared.fault.StepError.TheVariants.{Memory, Rule, KeyExhausted, Stopped}
use Rattle.media_laws.specs.Exhausting.{Exhausts}
use Rattle.media_laws.specs.Feedback.{next_index}
use Rattle.media_laws.specs.Keys.{sealing_of}
use Rattle.media_laws.specs.Rules.{step_fault}
use Rattle.srtp_core.specs.declared.context.TheConstants.{SRTCP_INDEX_LIMIT}

-- why a step is not played after these entries, and what is told of it: it breaks a rule, and then nothing is told; or it breaks
-- none, and has a side seal behind the last number of a key; memory may run out
abbrev pub IsStepCause : CipherMeaning → Setup → List Entry → Step → StepError → List Entry → Type 0
IsStepCause cipher setup past step Memory told = Unit {0}
IsStepCause cipher setup past step (Rule fault) told = (step_fault setup past step ≡ Some fault) × (told ≡ [])
IsStepCause cipher setup past step (KeyExhausted side counter) told =
    (step_fault setup past step ≡ None) × Exhausts (sealing_of cipher setup) setup past step side counter told
IsStepCause cipher setup past step Stopped told = ⊥

-- a run ends at a step that is not played for this, where that is no rule
abbrev pub stops_at : StepError → Bool
stops_at (Rule fault) = false
stops_at _ = true

-- why a side does not send after these entries: no index is left; memory may run out
abbrev pub IsSendingCause : Setup → Side → List Entry → StepError → Type 0
IsSendingCause setup side entries Memory = Unit {0}
IsSendingCause setup side entries (Rule fault) = ⊥
IsSendingCause setup side entries (KeyExhausted by counter) =
    (by ≡ side) × (counter ≡ key.Rtcp) × (next_index setup side entries ≡ SRTCP_INDEX_LIMIT)
IsSendingCause setup side entries Stopped = ⊥

-- the error of a step at which a side's session is cut off with an error
abbrev pub cut_as : Side → RtcError → StepError
cut_as side (rtc.KeyExhausted counter) = KeyExhausted side key.Rtcp
cut_as side (rtc.RepairsExhausted ssrc) = KeyExhausted side (key.Rtx ssrc)
cut_as side _ = Memory
