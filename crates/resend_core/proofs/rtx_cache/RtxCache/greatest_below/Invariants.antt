use Rattle.std.proofs.Common.{◌≡◌, ◌≤◌, None}
use Rattle.std.specs.Prelude.{option_and_then, slice_index_or}
use Rattle.resend_core.specs.RtxCache.{packet_at, greatest_below}
use Rattle.resend_core.proofs.rtx_cache.RtxCache.greatest_below.Given as goal

abbrev pub invariant-loop-below : goal.invariant-loop-below
invariant-loop-below g l = record {
  within : l.below ≤ l.class;
  same : greatest_below (λ k. option_and_then (packet_at g.S.ResendStore.value_at l.self) (slice_index_or l.self.numbers k None)) l.below ≡ greatest_below (λ k. option_and_then (packet_at g.S.ResendStore.value_at l.self) (slice_index_or l.self.numbers k None)) l.class;
}

abbrev pub decreases-loop-below : goal.decreases-loop-below
decreases-loop-below g l = l.below
