use Rattle.std.proofs.Common.{length}
use Rattle.twcc_core.specs.Runs.{left_of}
use Rattle.twcc_core.proofs.Chunks.{IsPut}
use Rattle.twcc_core.proofs.chunk.write_chunks.Given as goal

abbrev pub invariant-loop-rest : goal.invariant-loop-rest
invariant-loop-rest l = IsPut (left_of l.rows) (left_of l.rest) l.initial.out l.initial.at l.out l.end

abbrev pub decreases-loop-rest : goal.decreases-loop-rest
decreases-loop-rest l = length (left_of l.rest)
