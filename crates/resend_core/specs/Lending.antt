-- What a buffer ends as that lent a value.
use Rattle.std.specs.Prelude.{ℕ, Option}
use Rattle.std.specs.Borrow.{LendsIf, MutBor, Fml, RattleType}
use Rattle.resend_core.specs.declared.rtx_cache_buf.EvictingBuffer.{EvictingBuffer}
use Rattle.resend_core.specs.contracts.rtx_cache_buf.EvictingBuffer.{the_row}
use Rattle.resend_core.specs.EvictingBuffer.{with_value}

-- the buffer ends with the last value behind r under the position, and as it was where there is none
abbrev pub LendsValue : (T : RattleType) → MutBor (EvictingBuffer T.Denot) → ℕ → Option (MutBor T.Denot) → Fml
LendsValue T b p r = LendsIf (the_row T) T b r (with_value b.now p) b.now
