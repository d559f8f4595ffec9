use Rattle.std.proofs.Common.{ℕ, ◌<◌, slice_index}
use Rattle.media_base.specs.BitPattern.{IsSymbol}
use Rattle.media_base.proofs.bit_pattern.BitPattern.new.Given as goal

abbrev pub invariant-loop-symbol : goal.invariant-loop-symbol
invariant-loop-symbol l = (k : ℕ) → k < l.symbol-index → IsSymbol (slice_index l.fn.pattern k)
