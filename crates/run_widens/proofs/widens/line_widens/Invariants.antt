use Rattle.run_widens.proofs.LineLaws.{Knows}
use Rattle.run_widens.proofs.widens.line_widens.Given as goal

abbrev pub invariant-loop-i : goal.invariant-loop-i
invariant-loop-i l = Knows l.line l.entries l.i l.taken l.sent
