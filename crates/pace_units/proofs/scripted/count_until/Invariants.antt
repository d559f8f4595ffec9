use Rattle.std.proofs.Common.{◌≡◌, ◌+◌, drop}
use Rattle.pace_units.specs.Script.{count_until}
use Rattle.pace_units.proofs.scripted.count_until.Given as goal

abbrev pub invariant-loop-i : goal.invariant-loop-i
invariant-loop-i g l = l.i + count_until (drop l.i l.all) l.now ≡ count_until l.all l.now
