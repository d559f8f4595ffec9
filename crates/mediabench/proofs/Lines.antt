-- Lines of rows, one after another.
use Rattle.std.proofs.Common.{ℕ, ◌+◌, ◌<◌, ◌≤◌, List, [], ◌∷◌, ◌++◌, length, get_or, drop, refl, sym, subst}
use Rattle.std.specs.declared.option.Option.{Option}
use Rattle.std.specs.Io.KnownBytes.{Appends}
use Rattle.std.proofs.KnownBytes.{Appends-nil, Appends-trans}
use Rattle.std.proofs.lemmas.List.{drop_more, drop_all}
use Rattle.mediabench.specs.declared.table.Row.{Row}
use Rattle.mediabench.specs.declared.timing.Figure.{Figure}
use Rattle.mediabench.specs.Text.{row_line, TellsRows}

-- a line of one row, and then lines of those behind it
pub row_told : (rows : List Row) (i : ℕ) (d : Row) (figure : Figure) (a b c : Option (List ℕ)) → i < length rows
    → Appends a b (row_line (get_or rows i d) figure) → TellsRows (drop (i + 1) rows) b c → TellsRows (drop i rows) a c
row_told rows i d figure a b c lt wrote rest =
    let Told : List Row → Type 0 = λ rs. TellsRows rs a c in
    let row : Row = get_or rows i d in
    let whole : Told (row ∷ drop (i + 1) rows) =
    (row_line row figure ++ rest.0, (figure, rest.0, refl, rest.1), Appends-trans a b c (row_line row figure) rest.0 wrote rest.2) in
    subst Told (sym (drop_more rows i d lt)) whole

-- no rows, and nothing was written
pub none_told : (rows : List Row) (i : ℕ) (a : Option (List ℕ)) → length rows ≤ i → TellsRows (drop i rows) a a
none_told rows i a all =
    let Told : List Row → Type 0 = λ rs. TellsRows rs a a in
    subst Told (sym (drop_all i rows all)) ([], refl, Appends-nil a)
