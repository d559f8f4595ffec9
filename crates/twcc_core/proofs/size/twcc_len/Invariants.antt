use Rattle.twcc_core.specs.Runs.{left_of}
use Rattle.twcc_core.proofs.Cursor.{IsSized}
use Rattle.twcc_core.proofs.size.twcc_len.Given as goal

abbrev pub invariant-loop-row : goal.invariant-loop-row
invariant-loop-row l = IsSized l.twcc.rows (left_of l.row-iterator) l.size
