-- The commands, and what each writes.
use Rattle.std.specs.Prelude.{ℕ, ◌≡◌, List, [], ◌∷◌, codes}
use Rattle.std.specs.declared.option.Option.{Option}
use Rattle.std.specs.Io.KnownBytes.{Appends}
use Rattle.std.specs.List.{Contains}
use Rattle.mediabench.specs.declared.command.Command.{Command}
use Rattle.mediabench.specs.declared.command.Command.TheVariants.{Rows, RunAll, RunOne}
use Rattle.mediabench.specs.declared.table.Row.{Row}
use Rattle.mediabench.specs.Text.{names_text, TellsRows}

-- the words behind the program's name are those of the command
abbrev pub IsCommand : List (List ℕ) → Command → Type 0
IsCommand words Rows = words ≡ codes "rows" ∷ []
IsCommand words RunAll = words ≡ codes "run" ∷ []
IsCommand words (RunOne name) = words ≡ codes "run" ∷ name.now ∷ []

-- a row of the table has this name
abbrev pub IsNamed : List Row → List ℕ → Row → Type 0
IsNamed table name row = Contains table row × (row.name.now ≡ name)

-- what a command writes: the names of all rows of the table, or a line for each row that is timed
abbrev pub Writes : List Row → Command → Option (List ℕ) → Option (List ℕ) → Type 0
Writes table Rows held held' = Appends held held' (names_text table)
Writes table RunAll held held' = TellsRows table held held'
Writes table (RunOne name) held held' = (row : Row) × IsNamed table name.now row × TellsRows (row ∷ []) held held'

-- some row has the name that the command is given, if it is given one
abbrev pub IsThere : List Row → Command → Type 0
IsThere table (RunOne name) = (row : Row) × IsNamed table name.now row
IsThere table command = Unit {0}

-- the words ask for this, and it was written
abbrev pub Does : List Row → List (List ℕ) → Option (List ℕ) → Option (List ℕ) → Type 0
Does table words held held' = (command : Command) × IsCommand words command × Writes table command held held'

-- the words ask for something that there is
abbrev pub AsksForSome : List Row → List (List ℕ) → Type 0
AsksForSome table words = (command : Command) × IsCommand words command × IsThere table command
