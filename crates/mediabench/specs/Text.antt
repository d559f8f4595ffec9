-- What the program writes.
use Rattle.std.specs.Prelude.{ℕ, ◌≡◌, ◌/◌, ◌%◌, List, [], ◌∷◌, ◌++◌, codes}
use Rattle.std.specs.List.{flat_map}
use Rattle.std.specs.Fmt.{decimal}
use Rattle.std.specs.declared.option.Option.{Option}
use Rattle.std.specs.Io.KnownBytes.{Appends}
use Rattle.mediabench.specs.declared.table.Row.{Row}
use Rattle.mediabench.specs.declared.timing.Figure.{Figure}

-- the name of a row, and a line feed
abbrev pub name_line : Row → List ℕ
name_line row = row.name.now ++ codes "\n"

abbrev pub names_text : List Row → List ℕ
names_text rows = flat_map name_line rows

-- the line of a row: its name, the nanoseconds of an operation with one decimal, and what its operations answered
abbrev pub row_line : Row → Figure → List ℕ
row_line row figure =
    row.name.now ++ codes " " ++ decimal (figure.tenths / 10) ++ codes "." ++ decimal (figure.tenths % 10) ++ codes " ns (" ++ decimal figure.answer ++ codes ")\n"

-- one line for each of the rows, in order, of some figure
abbrev pub AreLinesOf : List Row → List ℕ → Type 0
AreLinesOf [] text = text ≡ []
AreLinesOf (row ∷ rows) text = (figure : Figure) × (rest : List ℕ) × (text ≡ row_line row figure ++ rest) × AreLinesOf rows rest

-- a line for each of the rows was written
abbrev pub TellsRows : List Row → Option (List ℕ) → Option (List ℕ) → Type 0
TellsRows rows held held' = (text : List ℕ) × AreLinesOf rows text × Appends held held' text
