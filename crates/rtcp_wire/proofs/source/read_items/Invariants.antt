use Rattle.std.proofs.Common.{◌-◌, length}
use Rattle.rtcp_wire.proofs.Chunks.{IsListed}
use Rattle.rtcp_wire.proofs.source.read_items.Given as goal

abbrev pub invariant-loop : goal.invariant-loop
invariant-loop l = IsListed l.values (length l.bytes - l.counter) l.rest l.bytes
