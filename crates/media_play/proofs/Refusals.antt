-- Why an act is refused.
use Rattle.std.proofs.Common.{◌≡◌, ◌≢◌, ℕ, true, List, [], ◌∷◌, ◌++◌, Some, refl, sym, ◌∙◌}
use Rattle.std.proofs.lemmas.List.{append-nil}
use Rattle.srtp_core.specs.Cipher.{CipherMeaning}
use Rattle.session_core.specs.declared.error.RtcError.{RtcError}
use Rattle.session_core.specs.declared.error.RtcError.TheVariants as rtc
use Rattle.media_model.specs.declared.entry.Call.TheVariants as call
use Rattle.media_model.specs.declared.entry.Side.{Side}
use Rattle.media_model.specs.declared.entry.Entry.{Entry}
use Rattle.media_model.specs.declared.entry.Entry.TheVariants.{Called}
use Rattle.media_model.specs.declared.step.Act.{Act}
use Rattle.media_model.specs.declared.step.Act.TheVariants.{Tick, Feedback}
use Rattle.media_model.specs.declared.setup.Setup.{Setup}
use Rattle.run_model.specs.Whole.{Session}
use Rattle.media_laws.specs.declared.fault.StepFault.{StepFault}
use Rattle.media_laws.specs.Feedback.{next_index}
use Rattle.media_laws.specs.Listing.{OnlyAdds}
use Rattle.media_laws.specs.Rules.{act_fault}
use Rattle.media_play.specs.declared.fault.StepError.{StepError}
use Rattle.media_play.specs.declared.fault.StepError.TheVariants.{Memory, Rule, KeyExhausted, Stopped}
use Rattle.media_play.specs.Acting.{IsActCause, RefusesAct}
use Rattle.media_play.specs.Errors.{IsSendingCause, stops_at, cut_as}
use Rattle.media_play.specs.Sessions.{EndState, ReadyAt, IsTickCause}

-- a session that is cut off stops a run, and was not stopped before
pub cut_stops : (side : Side) (error : RtcError) → (stops_at (cut_as side error) ≡ true) × (cut_as side error ≢ Stopped)
cut_stops side rtc.Memory = (refl, λ e. absurd cc)
cut_stops side rtc.Stopped = (refl, λ e. absurd cc)
cut_stops side (rtc.KeyExhausted counter) = (refl, λ e. absurd cc)
cut_stops side (rtc.RepairsExhausted ssrc) = (refl, λ e. absurd cc)
cut_stops side rtc.KeyLength = (refl, λ e. absurd cc)

pub tick_refused : (cipher : CipherMeaning) (setup : Setup) (side : Side) (a : Session) (entries : List Entry) (time : ℕ) (e : StepError) (told : List Entry)
    → IsTickCause cipher setup side a time e told → IsActCause cipher setup side a entries time Tick e told
tick_refused cipher setup side a entries time Memory told h = tt
tick_refused cipher setup side a entries time (Rule fault) told h = absurd h
tick_refused cipher setup side a entries time (KeyExhausted by counter) told h = (h.0, refl, h.1)
tick_refused cipher setup side a entries time Stopped told h = absurd h

-- a call that sends nothing
pub feedback_refused : (cipher : CipherMeaning) (setup : Setup) (side : Side) (a : Session) (entries log : List Entry) (time sender media : ℕ) (payload : List ℕ) (e : StepError)
    → IsSendingCause setup side entries e → log ≡ entries ++ Called side time call.Application ∷ []
    → (told : List Entry) × (log ≡ entries ++ told) × IsActCause cipher setup side a entries time (Feedback sender media payload) e told
feedback_refused cipher setup side a entries log time sender media payload Memory h is = (_, is, tt)
feedback_refused cipher setup side a entries log time sender media payload (Rule fault) h is = absurd h
feedback_refused cipher setup side a entries log time sender media payload (KeyExhausted by counter) h is = (_, is, (h.0, refl, (h.1, h.2, refl)))
feedback_refused cipher setup side a entries log time sender media payload Stopped h is = absurd h

module _ {cipher : CipherMeaning} {old new : EndState} {entries log : List Entry} {side : Side} {time : ℕ} {act : Act} where
  -- without memory some of what an act brings may be told
  pub memory_refused : OnlyAdds entries log → RefusesAct cipher old new entries log side time act Memory
  memory_refused adds = record { goes = λ e. absurd cc; unchanged = λ e. absurd cc; causes = λ setup a at index. (adds.0, adds.1, tt) }

  -- of an act that breaks a rule nothing is told, and nothing changes
  pub rule_refused : (fault : StepFault) → new ≡ old → log ≡ entries
      → ((setup : Setup) (a : Session) → ReadyAt cipher setup side old a entries time → act_fault setup entries side act ≡ Some fault)
      → RefusesAct cipher old new entries log side time act (Rule fault)
  rule_refused fault same still broken = record {
    goes = λ e. absurd cc;
    unchanged = λ e. (same, still);
    causes = λ setup a at index. ([], still ∙ sym (append-nil entries), (broken setup a at, refl));
  }

  -- one that finds a key used up, or for which memory runs out
  pub stop_refused : (e : StepError) → (stops_at e ≡ true) × (e ≢ Stopped)
      → ((setup : Setup) (a : Session) → ReadyAt cipher setup side old a entries time → a.rtcp ≡ next_index setup side entries
      → (told : List Entry) × (log ≡ entries ++ told) × IsActCause cipher setup side a entries time act e told)
      → RefusesAct cipher old new entries log side time act e
  stop_refused e stops causes = record { goes = stops.1; unchanged = λ goes. absurd (cc (stops.0, goes)); causes = causes }
