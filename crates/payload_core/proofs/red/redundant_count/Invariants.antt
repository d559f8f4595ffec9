use Rattle.payload_core.proofs.RedCount.{IsCounted}
use Rattle.payload_core.proofs.red.redundant_count.Given as goal

abbrev pub invariant-loop-count : goal.invariant-loop-count
invariant-loop-count l = IsCounted l.count l.rest l.bytes
