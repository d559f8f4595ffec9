use Rattle.std.proofs.Common.{◌≡◌, ltb, length, filter}
use Rattle.twcc_core.proofs.receive.forget_to.Given as goal

abbrev pub invariant-loop-first : goal.invariant-loop-first
invariant-loop-first l = filter (λ e. ltb l.last e.0) l.map.entries ≡ filter (λ e. ltb l.last e.0) l.initial.map.entries

abbrev pub decreases-loop-first : goal.decreases-loop-first
decreases-loop-first l = length l.map.entries
