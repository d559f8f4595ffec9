-- What the top call read, what came of it, and what it wrote.
use Rattle.std.specs.Prelude.{ℕ, ◌<◌, ◌≤◌, ◌≡◌, ◌⊎◌, List, [], length, true, codes}
use Rattle.std.specs.declared.option.Option.{Option}
use Rattle.std.specs.declared.option.Option.TheVariants.{Some, None}
use Rattle.std.specs.Io.KnownBytes.{Consumes, IsAtEnd}
use Rattle.media_model.specs.declared.entry.Entry.{Entry}
use Rattle.media_model.specs.declared.setup.Setup.{Setup as Given}
use Rattle.media_model.specs.declared.step.Step.{Step as ScriptStep}
use Rattle.media_script.specs.Spelling.{IsScript}
use Rattle.pace_core.specs.declared.run.PaceCall.{PaceCall}
use Rattle.pace_core.specs.Past.{made}
use Rattle.pace_core.specs.Run.{may_all_come}
use Rattle.pace_script.specs.Spelling.{IsPaceScript}
use Rattle.media_play.specs.Running.{AreValidSteps}
use Rattle.setup_rules.specs.SetupRules.{setup_fault}
use Rattle.mediasim.specs.declared.command.Command.{Command}
use Rattle.mediasim.specs.declared.command.Command.TheVariants.{Run, Pace}
use Rattle.mediasim.specs.declared.ends.End.{End}
use Rattle.mediasim.specs.declared.ends.End.TheVariants.{ReadFault, WriteFault, Memory, TooLong, Usage}
use Rattle.mediasim.specs.Command.{IsCommand, Makes}
use Rattle.mediasim.specs.Ends.{Tells}
use Rattle.mediasim.specs.Lines.{memory_line}
use Rattle.mediasim.specs.RunCommand.{script_cipher, EndsInRun}

-- all the input was read, which is within the length, and a command that the words name made this end of it
pub record IsMade (limit : ℕ) (words : List (List ℕ)) (left' : Option (List ℕ)) (read : List ℕ) (end : End) (transcript : Option (List Entry)) (text : List ℕ) : Type 0 where
  pub command : Command
  pub named : IsCommand words command
  pub whole : IsAtEnd left'
  pub within : length read ≤ limit
  pub makes : Makes command read end transcript text

-- the words name some command
abbrev pub NamesCommand : List (List ℕ) → Type 0
NamesCommand words = (command : Command) × IsCommand words command

-- the cause of each end, its transcript, and the text that belongs to it
abbrev pub Cause : ℕ → List (List ℕ) → Option (List ℕ) → List ℕ → End → Option (List Entry) → List ℕ → Type 0
Cause limit words left' read Usage transcript text =
    (NamesCommand words → ⊥) × (read ≡ []) × (transcript ≡ None) × (text ≡ codes "fault usage\n")
Cause limit words left' read ReadFault transcript text = NamesCommand words × (transcript ≡ None) × (text ≡ codes "fault read\n")
Cause limit words left' read TooLong transcript text =
    NamesCommand words × (limit < length read) × (transcript ≡ None) × (text ≡ codes "fault long\n")
Cause limit words left' read Memory transcript text =
    (NamesCommand words × (transcript ≡ None) × (text ≡ memory_line)) ⊎ IsMade limit words left' read Memory transcript text
Cause limit words left' read WriteFault transcript text = ⊥
Cause limit words left' read end transcript text = IsMade limit words left' read end transcript text

-- it read these bytes, whose end was told
pub record Answers (limit : ℕ) (words : List (List ℕ)) (left left' held held' : Option (List ℕ)) (answer : End) (answered : Option (List Entry)) : Type 0 where
  pub read : List ℕ
  pub taken : Consumes left left' read
  pub end : End
  pub transcript : Option (List Entry)
  pub text : List ℕ
  pub cause : Cause limit words left' read end transcript text
  pub tells : Tells held held' end transcript text answer answered

-- the source tells its bytes, which are a script of this setup and these steps
abbrev pub TellsScript : Option (List ℕ) → Given → List ScriptStep → Type 0
TellsScript None setup steps = ⊥
TellsScript (Some bytes) setup steps = IsScript bytes setup steps

-- the words are those of the command run, and the source tells a script of this setup and these steps
abbrev pub RunsScript : List (List ℕ) → Option (List ℕ) → Given → List ScriptStep → Type 0
RunsScript words left setup steps = IsCommand words Run × TellsScript left setup steps

-- the source tells its bytes, which are a pace script of this rate and these calls
abbrev pub TellsCalls : Option (List ℕ) → ℕ → List PaceCall → Type 0
TellsCalls None rate calls = ⊥
TellsCalls (Some bytes) rate calls = IsPaceScript bytes rate calls

-- the words are those of the command pace, and the source tells a pace script
abbrev pub RunsCalls : List (List ℕ) → Option (List ℕ) → ℕ → List PaceCall → Type 0
RunsCalls words left rate calls = IsCommand words Pace × TellsCalls left rate calls

-- the end of this setup and these steps was told, or one that is no end of a script
pub record AnswersScript (setup : Given) (steps : List ScriptStep) (held held' : Option (List ℕ)) (answer : End) (answered : Option (List Entry)) : Type 0 where
  pub end : End
  pub transcript : Option (List Entry)
  pub text : List ℕ
  pub run : EndsInRun setup steps end transcript text
  pub tells : Tells held held' end transcript text answer answered

-- the command run, and a source that tells a script within the length, whose setup and steps break no rule
pub record IsInOrder (limit : ℕ) (words : List (List ℕ)) (left : Option (List ℕ)) (setup : Given) (steps : List ScriptStep) : Type 0 where
  pub command : IsCommand words Run
  pub bytes : List ℕ
  pub told : left ≡ Some bytes
  pub script : IsScript bytes setup steps
  pub short : length bytes ≤ limit
  pub fine : setup_fault setup ≡ None
  pub valid : AreValidSteps (script_cipher setup) setup steps

-- the command pace, and a source that tells a pace script within the length, whose calls may all come
pub record ArePaced (limit : ℕ) (words : List (List ℕ)) (left : Option (List ℕ)) (rate : ℕ) (calls : List PaceCall) : Type 0 where
  pub command : IsCommand words Pace
  pub bytes : List ℕ
  pub told : left ≡ Some bytes
  pub script : IsPaceScript bytes rate calls
  pub short : length bytes ≤ limit
  pub come : may_all_come (made (Some rate)) calls ≡ true
