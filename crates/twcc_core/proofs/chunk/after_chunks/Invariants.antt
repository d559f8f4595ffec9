use Rattle.std.proofs.Common.{length}
use Rattle.twcc_core.specs.Chunks.{symbols_of}
use Rattle.twcc_core.proofs.Symbols.{IsPassed}
use Rattle.twcc_core.proofs.chunk.after_chunks.Given as goal

abbrev pub invariant-loop-left : goal.invariant-loop-left
invariant-loop-left l = IsPassed l.left l.rest (symbols_of l.count l.bytes)

abbrev pub decreases-loop-left : goal.decreases-loop-left
decreases-loop-left l = length l.rest
