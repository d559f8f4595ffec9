use Rattle.std.proofs.Common.{◌≡◌, drop}
use Rattle.setup_rules.specs.SetupRules.{any_rid_again}
use Rattle.setup_rules.proofs.rules.any_rid_again.Given as goal

abbrev pub invariant-loop-i : goal.invariant-loop-i
invariant-loop-i l = any_rid_again (drop l.i l.streams) ≡ any_rid_again l.streams
