use Rattle.std.proofs.Common.{◌-◌}
use Rattle.twcc_core.specs.Runs.{left_of}
use Rattle.twcc_core.proofs.Cursor.{IsFirstRun}
use Rattle.twcc_core.proofs.chunk.first_run.Given as goal

abbrev pub invariant-loop-run : goal.invariant-loop-run
invariant-loop-run l = IsFirstRun l.run l.symbol (left_of l.rows) (left_of l.rest)

abbrev pub decreases-loop-run : goal.decreases-loop-run
decreases-loop-run l = 8191 - l.run
