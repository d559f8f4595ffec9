-- The commands, and what each makes of a whole input.
use Rattle.std.specs.Prelude.{ℕ, ◌≡◌, List, [], ◌∷◌, codes}
use Rattle.std.specs.declared.option.Option.{Option}
use Rattle.std.specs.declared.option.Option.TheVariants.{None}
use Rattle.media_model.specs.declared.entry.Entry.{Entry}
use Rattle.mediasim.specs.declared.command.Command.{Command}
use Rattle.mediasim.specs.declared.command.Command.TheVariants.{Run, Pace}
use Rattle.mediasim.specs.declared.ends.End.{End}
use Rattle.mediasim.specs.Ends.{Tells}
use Rattle.mediasim.specs.PaceCommand.{PaceMakes}
use Rattle.mediasim.specs.RunCommand.{RunMakes}

-- the words behind the program's name are those of the command
abbrev pub IsCommand : List (List ℕ) → Command → Type 0
IsCommand words Run = words ≡ codes "run" ∷ []
IsCommand words Pace = words ≡ codes "pace" ∷ []

-- the end, the transcript and the text that a command makes of all the bytes that were read
abbrev pub Makes : Command → List ℕ → End → Option (List Entry) → List ℕ → Type 0
Makes Run read end transcript text = RunMakes read end transcript text
Makes Pace read end transcript text = (transcript ≡ None) × PaceMakes read end text

-- a command made an end of these bytes, and told it
pub record Carries (command : Command) (read : List ℕ) (held held' : Option (List ℕ)) (answer : End) (answered : Option (List Entry)) : Type 0 where
  pub end : End
  pub transcript : Option (List Entry)
  pub text : List ℕ
  pub makes : Makes command read end transcript text
  pub tells : Tells held held' end transcript text answer answered
