-- What a run comes to, with its line and without memory for it.
use Rattle.std.proofs.Common.{◌≡◌, inl, inr, ℕ, List, [], ◌++◌, length, take, Some, None, Result, Ok, Err, refl, sym, ap, ◌∙◌, subst, arith}
use Rattle.std.specs.Prelude.{◌↔◌, Bool, IfOk, IfErr, IsTrue}
use Rattle.std.specs.declared.alloc.AllocError.{AllocError}
use Rattle.std.specs.declared.option.Option.{Option}
use Rattle.std.proofs.lemmas.List.{take_all}
use Rattle.media_laws.specs.declared.counter.Counter.{Counter}
use Rattle.media_model.specs.declared.entry.Side.{Side}
use Rattle.media_model.specs.declared.entry.Entry.{Entry}
use Rattle.media_model.specs.declared.setup.Setup.{Setup as Given}
use Rattle.media_model.specs.declared.step.Step.{Step as ScriptStep}
use Rattle.media_model.specs.declared.transcript.Transcript.{Transcript}
use Rattle.media_script.specs.declared.error.ScriptError.{ScriptError}
use Rattle.media_script.specs.declared.error.ScriptError.TheVariants as script
use Rattle.media_script.specs.FirstWrong.{IsFirstWrong, StopsRightly}
use Rattle.media_script.specs.Gives.{GivesScript}
use Rattle.media_script.specs.Spelling.{IsScript}
use Rattle.media_model.specs.Genuine.{is_genuine}
use Rattle.media_script.specs.Text.{entries_text, end_text}
use Rattle.media_laws.specs.declared.fault.StepFault.{StepFault}
use Rattle.media_play.specs.declared.fault.RunError.{RunError}
use Rattle.media_play.specs.declared.fault.RunError.TheVariants as error
use Rattle.media_play.specs.declared.fault.RunFault.{RunFault}
use Rattle.media_laws.specs.Headline.{HoldsOfRun, HoldsToKey, RunWidens, StepsAreAnswered, SealsAreRight, NoNonceTwice, SendsWrites, YieldsWrites, NoPacketTwice, FirstSendingsAreYielded}
use Rattle.media_laws.specs.Opening.{Sealing}
use Rattle.media_laws.specs.Play.{Played}
use Rattle.media_play.specs.Running.{HasCause, OfRun, Answered, AnsweredUntil, Holds, HoldsUntil, UsedUp}
use Rattle.setup_rules.specs.declared.fault.SetupFault.{SetupFault}
use Rattle.setup_rules.specs.SetupRules.{setup_fault}
use Rattle.mediasim.specs.declared.ends.End.{End}
use Rattle.mediasim.specs.declared.ends.End.TheVariants.{Done, Setup, Step, KeyExhausted, Call, ReadFault, WriteFault, Memory, Syntax, TooLong, Usage}
use Rattle.mediasim.specs.Lines.{memory_line, IsLastLine, reported}
use Rattle.mediasim.specs.RunCommand.{key_line, script_cipher, script_sealing, syntax_line, setup_line, step_line, AreOfRun, RunEnds, RunMakes, IsNoScript, TellsWhole}

-- all that holds of a run, whether it came to its end or not
whole_holds : (seal : Sealing) (setup : Given) (entries : List Entry)
    → StepsAreAnswered seal setup entries → SealsAreRight seal setup entries → NoNonceTwice entries → SendsWrites setup entries → YieldsWrites setup entries
    → NoPacketTwice entries → FirstSendingsAreYielded setup entries → HoldsOfRun seal setup entries
whole_holds seal setup entries steps seals nonces sendings yields once exactly =
    record { steps = steps; seals = seals; nonces = nonces; sendings = sendings; yields = yields; once = once; exactly = exactly }

until_holds : (seal : Sealing) (setup : Given) (cause : RunError) (entries : List Entry)
    → AnsweredUntil seal setup cause entries → UsedUp setup entries cause → SealsAreRight seal setup entries → NoNonceTwice entries → SendsWrites setup entries
    → YieldsWrites setup entries → NoPacketTwice entries → FirstSendingsAreYielded setup entries → HoldsUntil seal setup cause entries
until_holds seal setup (error.KeyExhausted side counter) entries steps used seals nonces sendings yields once exactly =
    record { steps = steps; front = record { seals = seals; nonces = nonces; sendings = sendings; yields = yields; once = once }; exactly = exactly; used_up = used }
until_holds seal setup (error.Setup fault) entries steps used seals nonces sendings yields once exactly =
    whole_holds seal setup entries steps seals nonces sendings yields once exactly
until_holds seal setup (error.Step number fault) entries steps used seals nonces sendings yields once exactly =
    whole_holds seal setup entries steps seals nonces sendings yields once exactly
until_holds seal setup error.Memory entries steps used seals nonces sendings yields once exactly =
    whole_holds seal setup entries steps seals nonces sendings yields once exactly

pub all_holds : (seal : Sealing) (setup : Given) (r : Result Transcript RunFault)
    → Answered seal setup r → IfErr r (λ f. UsedUp setup f.sofar f.cause) → OfRun r (SealsAreRight seal setup) → OfRun r NoNonceTwice → OfRun r (SendsWrites setup)
    → OfRun r (YieldsWrites setup) → OfRun r NoPacketTwice → OfRun r (FirstSendingsAreYielded setup) → Holds seal setup r
all_holds seal setup (Ok entries) steps used seals nonces sendings yields once exactly = whole_holds seal setup entries steps seals nonces sendings yields once exactly
all_holds seal setup (Err fault) steps used seals nonces sendings yields once exactly =
    until_holds seal setup fault.cause fault.sofar steps used seals nonces sendings yields once exactly

-- all entries are a front of themselves
all_told : (entries : List Entry) (last : List ℕ) → last ≡ memory_line → entries_text entries ++ last ≡ entries_text (take (length entries) entries) ++ memory_line
all_told entries last is =
    ap (λ (xs : List ℕ). entries_text entries ++ xs) is
    ∙ ap (λ (es : List Entry). entries_text es ++ memory_line) (sym (take_all (length entries) entries (omega arith)))

-- a run that ended at a step
pub step_ends : {X : Type 0} (view : X → List ℕ) (setup : Given) (steps : List ScriptStep) (number : ℕ) (fault : StepFault) (entries told : List Entry)
    (line : Result X AllocError) (ended : End) (last : List ℕ)
    → IsLastLine view (Step number fault) line ended last → IfOk line (λ text. view text ≡ step_line number fault) → told ≡ entries
    → HasCause (script_cipher setup) setup steps entries (error.Step number fault) → HoldsOfRun (script_sealing setup) setup entries
    → RunEnds setup steps ended (reported ended told) (entries_text told ++ last)
step_ends view setup steps number fault entries told (Ok text) ended last is said same cause holds =
    subst (λ (es : List Entry). RunEnds setup steps ended (reported ended es) (entries_text es ++ last)) (sym same)
    (subst (λ (e : End). RunEnds setup steps e (reported e entries) (entries_text entries ++ last)) (sym is.0)
    (cause, holds, ap (λ (xs : List ℕ). entries_text entries ++ xs) (is.1 ∙ said)))
step_ends view setup steps number fault entries told (Err e) ended last is said same cause holds =
    subst (λ (es : List Entry). RunEnds setup steps ended (reported ended es) (entries_text es ++ last)) (sym same)
    (subst (λ (e : End). RunEnds setup steps e (reported e entries) (entries_text entries ++ last)) (sym is.0)
    (entries, inr (error.Step number fault, cause), (length entries, all_told entries last is.1)))

-- a run that did not begin, as its setup breaks a rule
pub setup_ends : {X : Type 0} (view : X → List ℕ) (setup : Given) (steps : List ScriptStep) (fault : SetupFault) (entries told : List Entry)
    (line : Result X AllocError) (ended : End) (last : List ℕ)
    → IsLastLine view (Setup fault) line ended last → IfOk line (λ text. view text ≡ setup_line fault) → told ≡ entries
    → HasCause (script_cipher setup) setup steps entries (error.Setup fault)
    → RunEnds setup steps ended (reported ended told) (entries_text told ++ last)
setup_ends view setup steps fault entries told (Ok text) ended last is said same cause =
    subst (λ (es : List Entry). RunEnds setup steps ended (reported ended es) (entries_text es ++ last)) (sym (same ∙ cause.1))
    (subst (λ (e : End). RunEnds setup steps e (reported e []) last) (sym is.0) (cause.0, is.1 ∙ said))
setup_ends view setup steps fault entries told (Err e) ended last is said same cause =
    subst (λ (es : List Entry). RunEnds setup steps ended (reported ended es) (entries_text es ++ last)) (sym same)
    (subst (λ (e : End). RunEnds setup steps e (reported e entries) (entries_text entries ++ last)) (sym is.0)
    (entries, inr (error.Setup fault, cause), (length entries, all_told entries last is.1)))

-- a run that ended where a key was used up
pub key_ends : {X : Type 0} (view : X → List ℕ) (setup : Given) (steps : List ScriptStep) (side : Side) (counter : Counter) (entries told : List Entry)
    (line : Result X AllocError) (ended : End) (last : List ℕ)
    → IsLastLine view (KeyExhausted side counter) line ended last → IfOk line (λ text. view text ≡ key_line side counter) → told ≡ entries
    → HasCause (script_cipher setup) setup steps entries (error.KeyExhausted side counter) → HoldsToKey (script_sealing setup) setup side counter entries
    → RunEnds setup steps ended (reported ended told) (entries_text told ++ last)
key_ends view setup steps side counter entries told (Ok text) ended last is said same cause holds =
    subst (λ (es : List Entry). RunEnds setup steps ended (reported ended es) (entries_text es ++ last)) (sym same)
    (subst (λ (e : End). RunEnds setup steps e (reported e entries) (entries_text entries ++ last)) (sym is.0)
    (cause, holds, ap (λ (xs : List ℕ). entries_text entries ++ xs) (is.1 ∙ said)))
key_ends view setup steps side counter entries told (Err e) ended last is said same cause holds =
    subst (λ (es : List Entry). RunEnds setup steps ended (reported ended es) (entries_text es ++ last)) (sym same)
    (subst (λ (e : End). RunEnds setup steps e (reported e entries) (entries_text entries ++ last)) (sym is.0)
    (entries, inr (error.KeyExhausted side counter, cause), (length entries, all_told entries last is.1)))

-- the last line of a run of which it is known whether its repairs widen
pub tells_whole : {X : Type 0} (view : X → List ℕ) (setup : Given) (entries read : List Entry) (widens : Bool) (line : Result X AllocError)
    → (IsTrue widens ↔ RunWidens setup read) → read ≡ entries → IfOk line (λ text. view text ≡ end_text (is_genuine entries) widens)
    → IfOk line (λ text. TellsWhole setup entries (entries_text entries ++ view text))
tells_whole view setup entries read widens (Ok text) decides same is = (
  widens,
  subst (λ (es : List Entry). IsTrue widens ↔ RunWidens setup es) same decides,
  ap (λ (xs : List ℕ). entries_text entries ++ xs) is,
)
tells_whole view setup entries read widens (Err e) decides same is = tt

-- a run that was played to its end
pub done_ends : {X : Type 0} (view : X → List ℕ) (setup : Given) (steps : List ScriptStep) (entries told : List Entry)
    (line : Result X AllocError) (ended : End) (last : List ℕ)
    → IsLastLine view Done line ended last → IfOk line (λ text. TellsWhole setup entries (entries_text entries ++ view text)) → told ≡ entries
    → setup_fault setup ≡ None → Played (script_sealing setup) setup steps entries → HoldsOfRun (script_sealing setup) setup entries
    → RunEnds setup steps ended (reported ended told) (entries_text told ++ last)
done_ends view setup steps entries told (Ok text) ended last is said same fine played holds =
    subst (λ (es : List Entry). RunEnds setup steps ended (reported ended es) (entries_text es ++ last)) (sym same)
    (subst (λ (e : End). RunEnds setup steps e (reported e entries) (entries_text entries ++ last)) (sym is.0)
    (fine, played, holds, subst (λ (xs : List ℕ). TellsWhole setup entries (entries_text entries ++ xs)) (sym is.1) said))
done_ends view setup steps entries told (Err e) ended last is said same fine played holds =
    subst (λ (es : List Entry). RunEnds setup steps ended (reported ended es) (entries_text es ++ last)) (sym same)
    (subst (λ (e : End). RunEnds setup steps e (reported e entries) (entries_text entries ++ last)) (sym is.0)
    (entries, inl played, (length entries, all_told entries last is.1)))

-- a run that ended for want of memory
pub memory_ends : (setup : Given) (steps : List ScriptStep) (entries told : List Entry) (ended : End) (last : List ℕ)
    → ended ≡ Memory → last ≡ memory_line → told ≡ entries → HasCause (script_cipher setup) setup steps entries error.Memory
    → RunEnds setup steps ended (reported ended told) (entries_text told ++ last)
memory_ends setup steps entries told ended last is line same cause =
    subst (λ (es : List Entry). RunEnds setup steps ended (reported ended es) (entries_text es ++ last)) (sym same)
    (subst (λ (e : End). RunEnds setup steps e (reported e entries) (entries_text entries ++ last)) (sym is)
    (entries, inr (error.Memory, cause), (length entries, all_told entries last line)))

-- the end of a script's run is that of its bytes
pub run_makes : (read : List ℕ) (setup : Given) (steps : List ScriptStep) (end : End) (transcript : Option (List Entry)) (text : List ℕ)
    → IsScript read setup steps → RunEnds setup steps end transcript text → RunMakes read end transcript text
run_makes read setup steps Done transcript text script h = record { setup = setup; steps = steps; script = script; run = h }
run_makes read setup steps (Setup fault) transcript text script h = record { setup = setup; steps = steps; script = script; run = h }
run_makes read setup steps (Step number fault) transcript text script h = record { setup = setup; steps = steps; script = script; run = h }
run_makes read setup steps (KeyExhausted by counter) transcript text script h = record { setup = setup; steps = steps; script = script; run = h }
run_makes read setup steps Memory None text script h = inr (record { setup = setup; steps = steps; script = script; run = h })
run_makes read setup steps Memory (Some entries) text script h = absurd h
run_makes read setup steps (Call number) transcript text script h = absurd h
run_makes read setup steps (Syntax line) transcript text script h = absurd h
run_makes read setup steps ReadFault transcript text script h = absurd h
run_makes read setup steps WriteFault transcript text script h = absurd h
run_makes read setup steps TooLong transcript text script h = absurd h
run_makes read setup steps Usage transcript text script h = absurd h

-- memory runs out after some entries of a run were told
pub run_fronts : (read : List ℕ) (setup : Given) (steps : List ScriptStep) (entries : List Entry) (count : ℕ) → IsScript read setup steps → AreOfRun setup steps entries
    → RunMakes read Memory None (entries_text (take count entries) ++ memory_line)
run_fronts read setup steps entries count script are =
    inr (record { setup = setup; steps = steps; script = script; run = (entries, are, (count, refl)) })

-- bytes that are no script
pub syntax_makes : {X : Type 0} (view : X → List ℕ) (read : List ℕ) (number : ℕ) (entries : List Entry) (line : Result X AllocError) (ended : End) (last : List ℕ)
    → IsLastLine view (Syntax number) line ended last → IfOk line (λ text. view text ≡ syntax_line number) → entries ≡ []
    → IsFirstWrong read number → IsNoScript read
    → RunMakes read ended (reported ended entries) (entries_text entries ++ last)
syntax_makes view read number entries (Ok text) ended last is said none wrong not_script =
    subst (λ (es : List Entry). RunMakes read ended (reported ended es) (entries_text es ++ last)) (sym none)
    (subst (λ (e : End). RunMakes read e (reported e []) (entries_text [] ++ last)) (sym is.0) (wrong, not_script, is.1 ∙ said))
syntax_makes view read number entries (Err e) ended last is said none wrong not_script =
    subst (λ (es : List Entry). RunMakes read ended (reported ended es) (entries_text es ++ last)) (sym none)
    (subst (λ (e : End). RunMakes read e (reported e []) (entries_text [] ++ last)) (sym is.0) (inl is.1))

-- what a script gives is no line
pub no_line : (setup : Given) (steps : List ScriptStep) (line : ℕ) → (let script : Given × List ScriptStep = (setup, steps) in ◌≡◌ {A = Result (Given × List ScriptStep) ℕ} (Ok script) (Err line)) → ⊥
no_line setup steps line e = cc

-- the line of a reader that stopped is the first wrong one, and it gave no script
pub first_told : {X : Type 0} (read : List ℕ) (line : ℕ) (error : ScriptError) (r : Result X ScriptError) → r ≡ Err error → error ≡ script.Syntax line
    → StopsRightly r read → IsFirstWrong read line
first_told {X} read line error r is same first =
    subst (λ (x : Result X ScriptError). StopsRightly x read) (is ∙ ap (λ (e : ScriptError). Err e) same) first

pub none_told : {X : Type 0} (view : X → Given × List ScriptStep) (setup : Given) (steps : List ScriptStep) (line : ℕ) (error : ScriptError) (r : Result X ScriptError)
    → r ≡ Err error → error ≡ script.Syntax line → (let script : Given × List ScriptStep = (setup, steps) in GivesScript view r (Ok script)) → ⊥
none_told {X} view setup steps line error r is same given =
    no_line setup steps line
    (subst (λ (x : Result X ScriptError). (let script : Given × List ScriptStep = (setup, steps) in GivesScript view x (Ok script))) (is ∙ ap (λ (e : ScriptError). Err e) same) given)
