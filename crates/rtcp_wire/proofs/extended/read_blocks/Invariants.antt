use Rattle.std.proofs.Common.{◌-◌, length}
use Rattle.rtcp_wire.specs.Extended.{blocks_of}
use Rattle.rtcp_wire.proofs.Blocks.{IsRead}
use Rattle.rtcp_wire.proofs.extended.read_blocks.Given as goal

abbrev pub invariant-loop : goal.invariant-loop
invariant-loop l = IsRead l.blocks (length l.bytes - l.counter) l.rest (blocks_of l.bytes)
