use Rattle.std.proofs.Common.{◌≡◌, length, Some}
use Rattle.payload_core.specs.Buffer.{settled}
use Rattle.payload_core.proofs.buffer.settle.Given as goal

abbrev pub invariant-loop-first : goal.invariant-loop-first
invariant-loop-first l = settled (Some l.last) l.paddings.keys ≡ settled (Some l.initial.last) l.initial.paddings.keys

abbrev pub decreases-loop-first : goal.decreases-loop-first
decreases-loop-first l = length l.paddings.keys
