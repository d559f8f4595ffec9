-- What the command pace makes of a whole input.
use Rattle.std.specs.Prelude.{ℕ, ◌≡◌, ◌+◌, List, ◌++◌, take, true, codes}
use Rattle.std.specs.Fmt.{decimal}
use Rattle.std.specs.declared.option.Option.{Option}
use Rattle.std.specs.declared.option.Option.TheVariants.{Some, None}
use Rattle.media_model.specs.declared.entry.Entry.{Entry}
use Rattle.pace_core.specs.declared.log.PaceEntry.{PaceEntry}
use Rattle.pace_core.specs.declared.run.PaceCall.{PaceCall}
use Rattle.pace_core.specs.declared.run.PaceError.TheVariants as error
use Rattle.pace_core.specs.Past.{made}
use Rattle.pace_core.specs.Run.{entries, may_all_come, IsCause, KeepsEnvelope}
use Rattle.pace_script.specs.FirstWrong.{IsFirstWrong, IsNoScript}
use Rattle.pace_script.specs.Spelling.{IsPaceScript}
use Rattle.pace_script.specs.Text.{log_text, text_of}
use Rattle.mediasim.specs.Ends.{Tells}
use Rattle.mediasim.specs.Lines.{memory_line}
use Rattle.mediasim.specs.RunCommand.{syntax_line}
use Rattle.mediasim.specs.declared.ends.End.{End}
use Rattle.mediasim.specs.declared.ends.End.TheVariants.{Done, Call, ReadFault, Memory, Syntax, TooLong}

-- the fault line that names a call
abbrev pub call_line : ℕ → List ℕ
call_line number = codes "fault step " ++ decimal number ++ codes " Call\n"

-- what all these calls answer a leaky bucket pacer's driver, at a first rate
abbrev pub answers_of : ℕ → List PaceCall → List PaceEntry
answers_of rate calls = entries (made (Some rate)) calls

-- all calls came, and what they answered was written; it keeps within the envelope
pub record PlaysCalls (rate : ℕ) (calls : List PaceCall) (text : List ℕ) : Type 0 where
  pub came : may_all_come (made (Some rate)) calls ≡ true
  pub text_is : text ≡ text_of (answers_of rate calls)
  pub envelope : KeepsEnvelope rate calls (answers_of rate calls)

-- the call of this number, counted from 1, is the first that may not come; what the calls before it answered was written, and the
-- fault line
pub record StopsAtCall (rate : ℕ) (calls : List PaceCall) (number : ℕ) (text : List ℕ) : Type 0 where
  pub before : ℕ
  pub counted : number ≡ before + 1
  pub cause : IsCause rate calls (error.Call before)
  pub text_is : text ≡ log_text (answers_of rate (take before calls)) ++ call_line number
  pub envelope : KeepsEnvelope rate calls (answers_of rate (take before calls))

-- what calls at a first rate come to
abbrev pub PaceEnds : ℕ → List PaceCall → End → List ℕ → Type 0
PaceEnds rate calls Done text = PlaysCalls rate calls text
PaceEnds rate calls (Call number) text = StopsAtCall rate calls number text
PaceEnds rate calls end text = ⊥

-- what was read is a pace script, whose calls come to this end
pub record PaceScriptEnds (read : List ℕ) (end : End) (text : List ℕ) : Type 0 where
  pub rate : ℕ
  pub calls : List PaceCall
  pub script : IsPaceScript read rate calls
  pub run : PaceEnds rate calls end text

-- the end and the text of all that was read
abbrev pub PaceMakes : List ℕ → End → List ℕ → Type 0
PaceMakes read Done text = PaceScriptEnds read Done text
PaceMakes read (Call number) text = PaceScriptEnds read (Call number) text
PaceMakes read (Syntax line) text = IsFirstWrong read line × IsNoScript read × (text ≡ syntax_line line)
PaceMakes read Memory text = text ≡ memory_line
PaceMakes read end text = ⊥

-- the call came to the end of these calls, or to one that is no end of a script
abbrev pub EndsInPace : ℕ → List PaceCall → End → List ℕ → Type 0
EndsInPace rate calls Done text = PaceEnds rate calls Done text
EndsInPace rate calls (Call number) text = PaceEnds rate calls (Call number) text
EndsInPace rate calls Memory text = text ≡ memory_line
EndsInPace rate calls ReadFault text = text ≡ codes "fault read\n"
EndsInPace rate calls TooLong text = text ≡ codes "fault long\n"
EndsInPace rate calls end text = ⊥

-- the end of these calls was told, or one that is no end of a script; there is no transcript
pub record AnswersCalls (rate : ℕ) (calls : List PaceCall) (held held' : Option (List ℕ)) (answer : End) (answered : Option (List Entry)) : Type 0 where
  pub end : End
  pub text : List ℕ
  pub run : EndsInPace rate calls end text
  pub tells : Tells held held' end None text answer answered

-- all calls were played, or memory ran out
abbrev pub PlaysAllCalls : End → Type 0
PlaysAllCalls Done = Unit {0}
PlaysAllCalls Memory = Unit {0}
PlaysAllCalls end = ⊥
