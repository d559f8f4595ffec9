use Rattle.std.proofs.Common.{◌≡◌, ◌≤◌, ◌+◌, ◌-◌, ◌^◌, min, drop}
use Rattle.media_units.specs.Soonest.{earlier}
use Rattle.stream_core.specs.Queue.{stamps_of, waits, earliest_of}
use Rattle.stream_core.proofs.send_queue.waits.Given as goal

abbrev pub invariant-loop-place : goal.invariant-loop-place
invariant-loop-place l = record {
  total : min (l.total + waits l.now (stamps_of (drop l.place l.packets.items))) (2 ^ 64 - 1) ≡ min (waits l.now (stamps_of l.packets.items)) (2 ^ 64 - 1);
  first : earlier l.first (earliest_of (stamps_of (drop l.place l.packets.items))) ≡ earliest_of (stamps_of l.packets.items);
  fits : l.total ≤ 2 ^ 64 - 1;
}
