-- What a session leaves where a drain fails.
use Rattle.std.proofs.Common.{◌≡◌, ℕ, List, [], ◌++◌, Ok, Err, sym, subst}
use Rattle.std.specs.Prelude.{Result, OnErr}
use Rattle.srtp_core.specs.Cipher.{CipherMeaning}
use Rattle.session_core.specs.declared.datagram.Datagram.{Datagram}
use Rattle.session_core.specs.declared.datagram.Event.{Event}
use Rattle.session_core.specs.declared.error.RtcError.{RtcError}
use Rattle.session_core.specs.declared.error.RtcError.TheVariants.{Memory}
use Rattle.session_core.specs.SessionRecord.{SessionRecord}
use Rattle.session_core.specs.Calls.{after_events, told}
use Rattle.session_core.specs.Draining.{stopped_record, IsDrainCut, IsCutOff, at_event, later}

-- what holds, holds at an error
pub on_err : {T E : Type 0} (r : Result T E) (P : Type 0) → P → OnErr r P
on_err (Ok x) P p = tt
on_err (Err e) P p = p

module _ (cipher : CipherMeaning) (now : ℕ) (r : SessionRecord) where
  -- before all that was told was taken
  pub cut_at_event : (between : SessionRecord) (taken : List Event) (error : RtcError) (events : List Event) (sent : List Datagram) → told r ≡ taken ++ told between
      → after_events between ≡ after_events r → error ≡ Memory → events ≡ taken → sent ≡ [] → IsCutOff cipher now r error (stopped_record between) events sent
  cut_at_event between taken error events sent front rest is e d =
      subst (λ x. IsCutOff cipher now r x (stopped_record between) events sent) (sym is)
      (subst (λ l. IsCutOff cipher now r Memory (stopped_record between) l sent) (sym e)
      (subst (λ l. IsCutOff cipher now r Memory (stopped_record between) taken l) (sym d) (at_event between taken front rest)))

  -- at a poll
  pub cut_later : (after : SessionRecord) (error is : RtcError) (events : List Event) (sent : List Datagram) → events ≡ told r → is ≡ error
      → IsDrainCut cipher now (after_events r) error after sent → IsCutOff cipher now r is after events sent
  cut_later after error is events sent e named d =
      subst (λ x. IsCutOff cipher now r x after events sent) (sym named)
      (subst (λ l. IsCutOff cipher now r error after l sent) (sym e) (later error after sent d))
