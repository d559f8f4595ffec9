use Rattle.std.proofs.Common.{◌≡◌, ◌++◌, ◌+◌, ◌≤◌, take, length}
use Rattle.std.specs.VecDeque.{deque_len, deque_capacity}
use Rattle.rtx_core.proofs.resend_queue.push_all.Given as goal

abbrev pub invariant-loop-resend : goal.invariant-loop-resend
invariant-loop-resend l = record {
  items : l.resends.items ≡ l.fn.resends.items ++ take l.resend-index l.more;
  room : deque_len l.resends + length l.more ≤ deque_capacity l.resends + l.resend-index;
}
