use Rattle.twcc_core.specs.Runs.{left_of}
use Rattle.twcc_core.specs.Times.{moments_from}
use Rattle.twcc_core.proofs.Cursor.{IsTimed}
use Rattle.twcc_core.proofs.moments.moments_after.Given as goal

abbrev pub invariant-loop-row : goal.invariant-loop-row
invariant-loop-row l = IsTimed l.moments l.last (left_of l.row-iterator) (moments_from l.fn.start (left_of l.fn.rows))
