use Rattle.std.proofs.Common.{◌≡◌, ◌≤◌}
use Rattle.repair_core.specs.Rounds.{Heard, taken}
use Rattle.red_core.specs.Placing.{fresh_in}
use Rattle.red_core.proofs.holes.first_fresh.Given as goal

abbrev pub invariant-loop-number : goal.invariant-loop-number
invariant-loop-number g l = record {
  low : l.fn.from ≤ l.number;
  rest : (past : Heard) → g.W.GapWindow.remembers l.window past → fresh_in (taken past) l.number l.end ≡ fresh_in (taken past) l.fn.from l.end;
}
