use Rattle.std.proofs.Common.{take}
use Rattle.mediabench.specs.declared.table.Row.{Row}
use Rattle.mediabench.specs.Command.{IsNamed}
use Rattle.mediabench.proofs.bench_main.row_of.Given as goal

-- none of the rows so far has the name
abbrev pub invariant-loop-row : goal.invariant-loop-row
invariant-loop-row l = (row : Row) → IsNamed (take l.row-index l.rows) l.name row → ⊥
