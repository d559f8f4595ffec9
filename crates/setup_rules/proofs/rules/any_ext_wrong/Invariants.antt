use Rattle.std.proofs.Common.{◌≡◌, drop}
use Rattle.setup_rules.specs.SetupRules.{any_ext_wrong}
use Rattle.setup_rules.proofs.rules.any_ext_wrong.Given as goal

abbrev pub invariant-loop-i : goal.invariant-loop-i
invariant-loop-i l = any_ext_wrong (drop l.i l.exts) ≡ any_ext_wrong l.exts
