use Rattle.std.proofs.Common.{◌-◌, length}
use Rattle.rtcp_wire.proofs.Writing.{IsWritten}
use Rattle.rtcp_wire.proofs.packet.Rtcp.write_packet.Given as goal

abbrev pub invariant-loop : goal.invariant-loop
invariant-loop l = IsWritten l.initial.items.items l.items.items l.initial.out l.out l.at (length l.initial.items.items - l.counter)
