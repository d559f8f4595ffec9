use Rattle.std.proofs.Common.{◌≡◌, Some, take}
use Rattle.resend_core.specs.RtxCache.{packet_at}
use Rattle.rtx_core.specs.Resends.{resends_of, numbers_of}
use Rattle.rtx_core.proofs.resend_queue.ResendQueue.named.Given as goal

abbrev pub invariant-loop-entry : goal.invariant-loop-entry
invariant-loop-entry g l = l.found.items ≡ resends_of g.P.Cached.size l.now (packet_at g.S.ResendStore.value_at l.self.cache) (numbers_of (Some l.last) (take l.entry-index l.entries))
