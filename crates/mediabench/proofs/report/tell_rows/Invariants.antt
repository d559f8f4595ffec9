use Rattle.std.proofs.Common.{ℕ, List, drop}
use Rattle.std.specs.declared.option.Option.{Option}
use Rattle.mediabench.specs.Text.{TellsRows}
use Rattle.mediabench.proofs.report.tell_rows.Given as goal

-- whatever lines of the rows that are left come next, they are all lines together with those that were written
abbrev pub invariant-loop-row : goal.invariant-loop-row
invariant-loop-row g l =
    (held : Option (List ℕ)) → TellsRows (drop l.row-index l.rows) (g.K.Sink.written l.sink) held
    → TellsRows l.rows (g.K.Sink.written l.fn.sink) held
