-- What the calls of a pace script come to.
use Rattle.std.proofs.Common.{◌≡◌, ℕ, zero, suc, ◌+◌, ◌<◌, List, [], ◌∷◌, ◌++◌, length, take, Some, Result, Ok, Err, true, refl, ap, ◌∙◌, subst, arith}
use Rattle.std.specs.Prelude.{slice_get}
use Rattle.media_script.specs.declared.error.ScriptError.{ScriptError}
use Rattle.media_script.specs.declared.error.ScriptError.TheVariants as script
use Rattle.media_script.specs.Gives.{GivesScript}
use Rattle.pace_core.specs.declared.log.PaceEntry.{PaceEntry}
use Rattle.pace_core.specs.declared.run.PaceCall.{PaceCall}
use Rattle.pace_core.specs.declared.run.PaceError.{PaceError}
use Rattle.pace_core.specs.declared.run.PaceError.TheVariants as stop
use Rattle.pace_core.specs.Past.{made}
use Rattle.pace_core.specs.Run.{entries, may_all_come, IsCause, KeepsEnvelope, IsLogOf, IsLogUntil}
use Rattle.pace_script.specs.FirstWrong.{IsFirstWrong, StopsRightly}
use Rattle.pace_script.specs.Text.{log_text, text_of}
use Rattle.mediasim.specs.PaceCommand.{call_line, answers_of, PlaysCalls, StopsAtCall}

-- what is found stands within
get_below : {X : Type 0} (xs : List X) (i : ℕ) (x : X) → slice_get xs i ≡ Some x → i < length xs
get_below [] i x e = absurd cc
get_below (y ∷ xs) zero x e = omega arith
get_below (y ∷ xs) (suc i) x e = let lt = get_below xs i x e in omega (arith, lt)

pub within : (rate : ℕ) (calls : List PaceCall) (error : PaceError) (before : ℕ) → error ≡ stop.Call before → IsCause rate calls error → before < length calls
within rate calls error before is cause =
    let c = subst (λ (e : PaceError). IsCause rate calls e) is cause in
    get_below calls before c.0 c.1

-- a run that stopped at a call
pub stops_at : (rate : ℕ) (calls : List PaceCall) (error : PaceError) (before : ℕ) (sofar : List PaceEntry) (text : List ℕ)
    → error ≡ stop.Call before → IsLogOf rate calls sofar → IsLogUntil rate calls error sofar → IsCause rate calls error → KeepsEnvelope rate calls sofar
    → text ≡ log_text sofar ++ call_line (before + 1) → StopsAtCall rate calls (before + 1) text
stops_at rate calls error before sofar text is log until cause keeps told =
    let long : length sofar ≡ before = subst (λ (e : PaceError). IsLogUntil rate calls e sofar) is until in
    let same : sofar ≡ answers_of rate (take before calls) = log ∙ ap (λ (n : ℕ). entries (made (Some rate)) (take n calls)) long in
    record {
      before = before;
      counted = refl;
      cause = subst (λ (e : PaceError). IsCause rate calls e) is cause;
      text_is = told ∙ ap (λ (es : List PaceEntry). log_text es ++ call_line (before + 1)) same;
      envelope = subst (λ (es : List PaceEntry). KeepsEnvelope rate calls es) same keeps;
    }

-- a run whose calls all came
pub plays : (rate : ℕ) (calls : List PaceCall) (log : List PaceEntry) (text : List ℕ) → log ≡ answers_of rate calls → may_all_come (made (Some rate)) calls ≡ true
    → KeepsEnvelope rate calls log → text ≡ text_of log → PlaysCalls rate calls text
plays rate calls log text is came keeps told = record {
  came = came;
  text_is = told ∙ ap (λ (es : List PaceEntry). text_of es) is;
  envelope = subst (λ (es : List PaceEntry). KeepsEnvelope rate calls es) is keeps;
}

-- the line of a reader that stopped is the first wrong one, and it gave no script
pub first_told : {X : Type 0} (read : List ℕ) (line : ℕ) (error : ScriptError) (r : Result X ScriptError) → r ≡ Err error → error ≡ script.Syntax line
    → StopsRightly r read → IsFirstWrong read line
first_told {X} read line error r is same first =
    subst (λ (x : Result X ScriptError). StopsRightly x read) (is ∙ ap (λ (e : ScriptError). Err e) same) first

no_line : (rate : ℕ) (calls : List PaceCall) (line : ℕ) → (let script : ℕ × List PaceCall = (rate, calls) in ◌≡◌ {A = Result (ℕ × List PaceCall) ℕ} (Ok script) (Err line)) → ⊥
no_line rate calls line e = cc

pub none_told : {X : Type 0} (view : X → ℕ × List PaceCall) (rate : ℕ) (calls : List PaceCall) (line : ℕ) (error : ScriptError) (r : Result X ScriptError)
    → r ≡ Err error → error ≡ script.Syntax line → (let script : ℕ × List PaceCall = (rate, calls) in GivesScript view r (Ok script)) → ⊥
none_told {X} view rate calls line error r is same given =
    no_line rate calls line
    (subst (λ (x : Result X ScriptError). (let script : ℕ × List PaceCall = (rate, calls) in GivesScript view x (Ok script))) (is ∙ ap (λ (e : ScriptError). Err e) same) given)
