use Rattle.std.proofs.Common.{◌≡◌, drop}
use Rattle.setup_rules.specs.SetupRules.{any_mid_again}
use Rattle.setup_rules.proofs.rules.any_mid_again.Given as goal

abbrev pub invariant-loop-i : goal.invariant-loop-i
invariant-loop-i l = any_mid_again (drop l.i l.media) ≡ any_mid_again l.media
