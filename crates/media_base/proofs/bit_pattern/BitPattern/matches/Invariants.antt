use Rattle.std.proofs.Common.{ℕ, ◌<◌, slice_index}
use Rattle.media_base.specs.BitPattern.{FitsBit, bit_of}
use Rattle.media_base.proofs.bit_pattern.BitPattern.matches.Given as goal

abbrev pub invariant-loop-k : goal.invariant-loop-k
invariant-loop-k l = (k : ℕ) → k < l.k → FitsBit (slice_index l.fn.self k) (bit_of l.byte k)
