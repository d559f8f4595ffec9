use Rattle.std.proofs.Common.{◌≡◌, drop}
use Rattle.resend_core.specs.RtxCache.{packet_at}
use Rattle.rtx_core.specs.Resends.{first_held}
use Rattle.rtx_core.proofs.resend_queue.first_held.Given as goal

abbrev pub invariant-loop-place : goal.invariant-loop-place
invariant-loop-place g l = first_held (packet_at g.S.ResendStore.value_at l.cache) l.resends.items ≡ first_held (packet_at g.S.ResendStore.value_at l.cache) (drop l.place l.resends.items)
