-- What the command run makes of a whole input.
use Rattle.std.specs.Prelude.{ℕ, ◌≡◌, ◌↔◌, ◌⊎◌, ◌+◌, Bool, IsTrue, List, [], ◌∷◌, ◌++◌, take, slice_get, codes}
use Rattle.std.specs.Fmt.{decimal}
use Rattle.std.specs.declared.option.Option.{Option}
use Rattle.std.specs.declared.option.Option.TheVariants.{Some, None}
use Rattle.srtp_core.specs.Cipher.{CipherMeaning}
use Rattle.srtp_core.specs.Sha.{sha_meaning}
use Rattle.srtp_core.specs.Toy.{toy_meaning}
use Rattle.media_model.specs.declared.entry.Entry.{Entry}
use Rattle.media_model.specs.declared.setup.CipherName.{CipherName}
use Rattle.media_model.specs.declared.setup.CipherName.TheVariants.{Toy, Sha}
use Rattle.media_model.specs.declared.setup.Setup.{Setup as Given}
use Rattle.media_model.specs.declared.step.Step.{Step as ScriptStep}
use Rattle.media_laws.specs.declared.counter.Counter.{Counter}
use Rattle.media_model.specs.declared.entry.Side.{Side}
use Rattle.media_script.specs.FirstWrong.{IsFirstWrong}
use Rattle.media_script.specs.Names.{side_text}
use Rattle.media_script.specs.Spelling.{IsScript}
use Rattle.media_script.specs.Text.{entries_text, text_of}
use Rattle.setup_rules.specs.declared.fault.SetupFault.{SetupFault}
use Rattle.media_laws.specs.declared.fault.StepFault.{StepFault}
use Rattle.media_play.specs.declared.fault.RunError.{RunError}
use Rattle.media_play.specs.declared.fault.RunError.TheVariants as error
use Rattle.media_laws.specs.Exhausting.{IsUsedUp}
use Rattle.media_laws.specs.FaultNames.{step_fault_name, counter_name}
use Rattle.media_laws.specs.Headline.{HoldsOfRun, HoldsToKey, StepsAreAnswered, StepsAreAnsweredToKey, PlaysSteps, RunWidens}
use Rattle.media_laws.specs.Keys.{sealing_of}
use Rattle.media_laws.specs.Opening.{Sealing}
use Rattle.media_laws.specs.Play.{Played}
use Rattle.media_play.specs.Running.{HasCause}
use Rattle.setup_rules.specs.FaultNames.{setup_fault_name}
use Rattle.setup_rules.specs.SetupRules.{setup_fault}
use Rattle.mediasim.specs.Lines.{memory_line}
use Rattle.mediasim.specs.declared.ends.End.{End}
use Rattle.mediasim.specs.declared.ends.End.TheVariants.{Done, Setup, Step, KeyExhausted, ReadFault, Memory, Syntax, TooLong, Usage}

-- what the cipher of a name means
abbrev pub meaning_of : CipherName → CipherMeaning
meaning_of Toy = toy_meaning
meaning_of Sha = sha_meaning

-- what the cipher that a setup names means, and how its sides seal with it
abbrev pub script_cipher : Given → CipherMeaning
script_cipher setup = meaning_of setup.cipher

abbrev pub script_sealing : Given → Sealing
script_sealing setup = sealing_of (script_cipher setup) setup

-- the fault lines that name a line, a rule of setups, a step and a rule of steps, or a side and what numbers its datagrams
abbrev pub syntax_line : ℕ → List ℕ
syntax_line line = codes "fault syntax " ++ decimal line ++ codes "\n"

abbrev pub setup_line : SetupFault → List ℕ
setup_line fault = codes "fault setup " ++ setup_fault_name fault ++ codes "\n"

abbrev pub step_line : ℕ → StepFault → List ℕ
step_line number fault = codes "fault step " ++ decimal number ++ codes " " ++ step_fault_name fault ++ codes "\n"

abbrev pub key_text : Side → Counter → List ℕ
key_text side counter = side_text side ++ codes " " ++ counter_name counter

abbrev pub key_line : Side → Counter → List ℕ
key_line side counter = codes "fault key " ++ key_text side counter ++ codes "\n"

-- the entries of a run of this setup and these steps: of all its steps, or those before it ended
abbrev pub AreOfRun : Given → List ScriptStep → List Entry → Type 0
AreOfRun setup steps entries =
    Played (script_sealing setup) setup steps entries ⊎ ((cause : RunError) × HasCause (script_cipher setup) setup steps entries cause)

-- the lines of all entries, and the last line, which says whether the repairs widen
abbrev pub TellsWhole : Given → List Entry → List ℕ → Type 0
TellsWhole setup entries text = (widens : Bool) × (IsTrue widens ↔ RunWidens setup entries) × (text ≡ text_of widens entries)

-- the lines of some entries at the front, and the fault line behind them
abbrev pub StopsAmong : List Entry → List ℕ → Type 0
StopsAmong entries text = (count : ℕ) × (text ≡ entries_text (take count entries) ++ memory_line)

-- what a setup and its steps come to: all steps are played; the setup breaks a rule, and nothing happens; the steps before
-- the first one that breaks a rule are played; a step finds a key used up, and the steps before it are played, and of it its call
-- is made, or its tick, with all that it seals until then; or memory runs out, and what was told ends with a line
abbrev pub RunEnds : Given → List ScriptStep → End → Option (List Entry) → List ℕ → Type 0
RunEnds setup steps Done (Some entries) text =
    (setup_fault setup ≡ None) × Played (script_sealing setup) setup steps entries
    × HoldsOfRun (script_sealing setup) setup entries × TellsWhole setup entries text
RunEnds setup steps (Setup fault) None text = (setup_fault setup ≡ Some fault) × (text ≡ setup_line fault)
RunEnds setup steps (Step number fault) (Some entries) text =
    HasCause (script_cipher setup) setup steps entries (error.Step number fault)
    × HoldsOfRun (script_sealing setup) setup entries × (text ≡ entries_text entries ++ step_line number fault)
RunEnds setup steps (KeyExhausted side counter) (Some entries) text =
    HasCause (script_cipher setup) setup steps entries (error.KeyExhausted side counter)
    × HoldsToKey (script_sealing setup) setup side counter entries × (text ≡ entries_text entries ++ key_line side counter)
RunEnds setup steps Memory None text = (entries : List Entry) × AreOfRun setup steps entries × StopsAmong entries text
RunEnds setup steps end transcript text = ⊥

-- what was read is a script, whose setup and steps come to this end
pub record ScriptEnds (read : List ℕ) (end : End) (transcript : Option (List Entry)) (text : List ℕ) : Type 0 where
  pub setup : Given
  pub steps : List ScriptStep
  pub script : IsScript read setup steps
  pub run : RunEnds setup steps end transcript text

-- these bytes are no script
abbrev pub IsNoScript : List ℕ → Type 0
IsNoScript read = (setup : Given) (steps : List ScriptStep) → IsScript read setup steps → ⊥

-- the end, the transcript and the text of all that was read
abbrev pub RunMakes : List ℕ → End → Option (List Entry) → List ℕ → Type 0
RunMakes read Done transcript text = ScriptEnds read Done transcript text
RunMakes read (Setup fault) transcript text = ScriptEnds read (Setup fault) transcript text
RunMakes read (Step number fault) transcript text = ScriptEnds read (Step number fault) transcript text
RunMakes read (KeyExhausted side counter) transcript text = ScriptEnds read (KeyExhausted side counter) transcript text
RunMakes read (Syntax line) None text = IsFirstWrong read line × IsNoScript read × (text ≡ syntax_line line)
RunMakes read Memory None text = (text ≡ memory_line) ⊎ ScriptEnds read Memory None text
RunMakes read end transcript text = ⊥

-- the call came to the end of this setup and these steps, or to one that is no end of a script
abbrev pub EndsInRun : Given → List ScriptStep → End → Option (List Entry) → List ℕ → Type 0
EndsInRun setup steps Done transcript text = RunEnds setup steps Done transcript text
EndsInRun setup steps (Setup fault) transcript text = RunEnds setup steps (Setup fault) transcript text
EndsInRun setup steps (Step number fault) transcript text = RunEnds setup steps (Step number fault) transcript text
EndsInRun setup steps (KeyExhausted side counter) transcript text = RunEnds setup steps (KeyExhausted side counter) transcript text
EndsInRun setup steps Memory None text = (text ≡ memory_line) ⊎ RunEnds setup steps Memory None text
EndsInRun setup steps ReadFault transcript text = transcript ≡ None
EndsInRun setup steps TooLong transcript text = transcript ≡ None
EndsInRun setup steps Usage transcript text = transcript ≡ None
EndsInRun setup steps end transcript text = ⊥

-- the steps among the entries are all those of the script, or those before the one that breaks a rule, or those up to the one
-- that finds a key used up
abbrev pub PlaysToEnd : List ScriptStep → End → Option (List Entry) → Type 0
PlaysToEnd steps Done (Some entries) = PlaysSteps steps entries
PlaysToEnd steps (Step number fault) (Some entries) = (before : ℕ) × (number ≡ before + 1) × PlaysSteps (take before steps) entries
PlaysToEnd steps (KeyExhausted side counter) (Some entries) =
    (before : ℕ) × (step : ScriptStep) × (slice_get steps before ≡ Some step) × PlaysSteps (take before steps ++ step ∷ []) entries
PlaysToEnd steps end transcript = transcript ≡ None

-- all steps were played, or a step found a key used up, or memory ran out
abbrev pub PlaysAll : Given → List ScriptStep → End → Option (List Entry) → Type 0
PlaysAll setup steps Done (Some entries) = Played (script_sealing setup) setup steps entries
PlaysAll setup steps (KeyExhausted side counter) (Some entries) =
    HasCause (script_cipher setup) setup steps entries (error.KeyExhausted side counter)
PlaysAll setup steps Memory None = Unit {0}
PlaysAll setup steps end transcript = ⊥

-- each step is answered; the one that finds a key used up in part
abbrev pub AnswersTo : Sealing → Given → End → Option (List Entry) → Type 0
AnswersTo seal setup (KeyExhausted side counter) (Some entries) = StepsAreAnsweredToKey seal setup entries
AnswersTo seal setup end (Some entries) = StepsAreAnswered seal setup entries
AnswersTo seal setup end None = Unit {0}

-- where a key is said to be used up, its side has sealed all its numbers
abbrev pub UsesUp : Given → End → Option (List Entry) → Type 0
UsesUp setup (KeyExhausted side counter) (Some entries) = IsUsedUp setup side counter entries
UsesUp setup end transcript = Unit {0}
