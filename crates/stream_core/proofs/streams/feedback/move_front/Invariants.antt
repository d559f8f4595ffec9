use Rattle.std.proofs.Common.{◌≡◌, ◌+◌, ◌++◌, take, drop}
use Rattle.std.specs.VecDeque.{deque_len, deque_capacity}
use Rattle.stream_core.proofs.streams.feedback.move_front.Given as goal

abbrev pub invariant-loop-moved : goal.invariant-loop-moved
invariant-loop-moved l = record {
  to : l.to.items ≡ l.fn.to.items ++ take l._moved l.fn.from.items;
  from : l.from.items ≡ drop l._moved l.fn.from.items;
  len : deque_len l.to ≡ deque_len l.fn.to + l._moved;
  capacity : deque_capacity l.to ≡ deque_capacity l.fn.to;
}
