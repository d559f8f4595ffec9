use Rattle.std.proofs.Common.{◌≡◌, ◌+◌, ◌*◌, ◌^◌, ◌≤◌, drop}
use Rattle.pace_core.specs.Queues.{packets_in, bytes_in, wait_in}
use Rattle.pace_core.proofs.queues.held_by.Given as goal

abbrev pub invariant-loop-queue : goal.invariant-loop-queue
invariant-loop-queue l = record {
  packets_so_far : l.packets + packets_in (drop l.queue-index l.queues) ≡ packets_in l.queues;
  bytes_so_far : l.bytes + bytes_in (drop l.queue-index l.queues) ≡ bytes_in l.queues;
  waited_so_far : l.waited + wait_in (drop l.queue-index l.queues) l.now ≡ wait_in l.queues l.now;
  few_packets : l.packets ≤ l.queue-index * 2 ^ 64;
  few_bytes : l.bytes ≤ l.queue-index * 2 ^ 64;
  short_waits : l.waited ≤ l.queue-index * 2 ^ 64;
}
