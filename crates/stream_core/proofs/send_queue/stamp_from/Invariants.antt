use Rattle.std.proofs.Common.{◌≡◌, ◌++◌, ◌+◌, ◌*◌, ◌≤◌, map, take, drop}
use Rattle.stream_core.specs.Queue.{with_stamp, payload_bytes}
use Rattle.stream_core.proofs.send_queue.stamp_from.Given as goal

abbrev pub invariant-loop-place : goal.invariant-loop-place
invariant-loop-place l = record {
  stamped : l.packets.items ≡ map (with_stamp l.now) (take l.place l.fn.packets.items) ++ drop l.place l.fn.packets.items;
  bytes : l.bytes + payload_bytes (drop l.place l.fn.packets.items) ≡ payload_bytes (drop l.from l.fn.packets.items);
  few : l.bytes + 1400 * l.from ≤ 1400 * l.place;
}
