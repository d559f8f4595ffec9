use Rattle.std.proofs.Common.{◌≡◌, ◌++◌, Some}
use Rattle.resend_core.specs.RtxCache.{packet_at}
use Rattle.rtp_base.specs.NackEntry.{named_by}
use Rattle.rtx_core.specs.Resends.{resends_of}
use Rattle.rtx_core.proofs.resend_queue.ResendQueue.push_named.Given as goal

abbrev pub invariant-loop-seq_no : goal.invariant-loop-seq_no
invariant-loop-seq_no g l = record {
  items : l.found.items ≡ l.fn.found.items ++ resends_of g.P.Cached.size l.now (packet_at g.S.ResendStore.value_at l.self.cache) l.yielded;
  rest : l.yielded ++ l.seq_no-iterator ≡ named_by (Some l.fn.last) l.fn.entry;
}
