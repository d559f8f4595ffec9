use Rattle.resend_core.specs.EvictingBuffer.{IsBounded, Drops}
use Rattle.resend_core.proofs.rtx_cache_buf.EvictingBuffer.drop_old.Given as goal

abbrev pub invariant-loop-step : goal.invariant-loop-step
invariant-loop-step g l = IsBounded l.initial.self → Drops l.initial.self l.self l.now
