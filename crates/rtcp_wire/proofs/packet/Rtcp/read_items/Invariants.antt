use Rattle.std.proofs.Common.{◌-◌, ◌/◌, length}
use Rattle.rtcp_wire.specs.Items.{items_of}
use Rattle.rtcp_wire.proofs.Reading.{IsRead}
use Rattle.rtcp_wire.proofs.packet.Rtcp.read_items.Given as goal

abbrev pub invariant-loop : goal.invariant-loop
invariant-loop l = IsRead l.initial.items.items l.items.items (length l.bytes / 4 - l.counter) l.rest (items_of l.bytes)
