use Rattle.std.proofs.Common.{◌≡◌, length}
use Rattle.payload_core.specs.Params.{for_kind}
use Rattle.payload_core.proofs.params.ParamsOfKindIterator.next.Given as goal

abbrev pub invariant-loop-first : goal.invariant-loop-first
invariant-loop-first l = for_kind l.self.kind l.self.rest.now ≡ for_kind l.initial.self.kind l.initial.self.rest.now

abbrev pub decreases-loop-first : goal.decreases-loop-first
decreases-loop-first l = length l.self.rest.now
