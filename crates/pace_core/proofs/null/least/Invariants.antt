use Rattle.std.proofs.Common.{◌≡◌, ◌<◌, drop}
use Rattle.std.specs.Prelude.{None}
use Rattle.std.specs.Option.{ForSome}
use Rattle.pace_core.specs.Null.{least_from}
use Rattle.pace_core.specs.declared.null.Candidate.{Candidate}
use Rattle.pace_core.proofs.null.least.Given as goal

abbrev pub invariant-loop-i : goal.invariant-loop-i
invariant-loop-i l = record {
  best_so_far : least_from l.best l.i (drop l.i l.queues) ≡ least_from None 0 l.queues;
  within : ForSome l.best (λ (best : Candidate). best.place < l.i);
}
