use Rattle.twcc_core.specs.Runs.{left_of}
use Rattle.twcc_core.proofs.Cursor.{IsDeltas}
use Rattle.twcc_core.proofs.status.write_deltas.Given as goal

abbrev pub invariant-loop-row : goal.invariant-loop-row
invariant-loop-row l = IsDeltas (left_of l.fn.rows) (left_of l.row-iterator) l.initial.out l.initial.at l.out l.end
