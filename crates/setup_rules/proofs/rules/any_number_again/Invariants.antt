use Rattle.std.proofs.Common.{◌≡◌, drop}
use Rattle.setup_rules.specs.SetupRules.{repeats}
use Rattle.setup_rules.proofs.rules.any_number_again.Given as goal

abbrev pub invariant-loop-i : goal.invariant-loop-i
invariant-loop-i l = repeats (drop l.i l.numbers) ≡ repeats l.numbers
