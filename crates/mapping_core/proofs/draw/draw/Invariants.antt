-- What is drawn is drawn with the tries that are left.
use Rattle.std.proofs.Common.{◌≡◌, ◌-◌}
use Rattle.mapping_core.specs.Draws.{drawn, is_apart}
use Rattle.mapping_core.proofs.draw.draw.Given as goal

abbrev pub invariant-loop : goal.invariant-loop
invariant-loop g l =
    drawn l.tries (is_apart (g.U.UsedSsrcs.uses l.used) l.other) (g.R.Rng.stream l.initial.rng)
    ≡ drawn (l.tries - l.counter) (is_apart (g.U.UsedSsrcs.uses l.used) l.other) (g.R.Rng.stream l.rng)
