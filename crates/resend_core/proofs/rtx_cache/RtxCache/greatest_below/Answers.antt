use Rattle.std.proofs.Common.{◌≡◌, ℕ, ◌<◌, ◌≤◌, ap, Option, None, arith, min}
use Rattle.std.specs.Prelude.{option_and_then, slice_index_or}
use Rattle.resend_core.specs.RtxCache.{packet_at}
use Rattle.resend_core.proofs.CacheLaws.{above_none}
use Rattle.resend_core.proofs.rtx_cache.RtxCache.greatest_below.Goals as goal

past_top : (b c t k : ℕ) → b ≡ min c t → b ≤ k → k < c → t ≤ k
past_top b c t k e i j = omega arith

pub loop-below-init : goal.loop-below-init
loop-below-init g c = record {
  within = omega arith;
  same = above_none (λ k. option_and_then (packet_at g.S.ResendStore.value_at c.args.self.now) (slice_index_or c.args.self.now.numbers k None)) c.min-below.result c.args.class (omega arith) (λ k i j. ap (λ (o : Option ℕ). option_and_then (packet_at g.S.ResendStore.value_at c.args.self.now) o) (c.top.ensures k (past_top c.min-below.result c.args.class c.top.result k c.min-below.ensures i j)));
}
