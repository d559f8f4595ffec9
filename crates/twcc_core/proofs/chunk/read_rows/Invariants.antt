use Rattle.std.proofs.Common.{length}
use Rattle.std.specs.Option.{option_and_then}
use Rattle.twcc_core.specs.Statuses.{statuses_of}
use Rattle.twcc_core.specs.Chunks.{symbols_of}
use Rattle.twcc_core.proofs.Symbols.{IsSaid}
use Rattle.twcc_core.proofs.chunk.read_rows.Given as goal

abbrev pub invariant-loop-left : goal.invariant-loop-left
invariant-loop-left l = IsSaid l.rows l.left l.rest l.unread (option_and_then (λ told. statuses_of told.0 l.deltas) (symbols_of l.count l.chunks))

abbrev pub decreases-loop-left : goal.decreases-loop-left
decreases-loop-left l = length l.rest
