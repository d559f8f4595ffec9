use Rattle.std.proofs.Common.{◌<◌, length, rules}
use Rattle.rtcp_wire.proofs.Blocks.{read_starts, read_more}
use Rattle.rtcp_wire.proofs.extended.read_blocks.Goals as goal

pub loop-init : goal.loop-init
loop-init c = rw c.new-blocks.ensures (read_starts c.args.bytes.now)

pub loop-preserved : goal.loop-preserved
loop-preserved c =
    let some : 0 < length c.loop.rest.now = search rules in
    let few : length c.loop.blocks < 31 = search rules in
    read_more c.loop.blocks c.read_first_block.new.blocks (length c.args.bytes.now) c.loop.counter c.loop.rest.now c.in-Ok-Some.after.now _ c.loop-test.true some few (rw c.in-Ok-Some.field-0-is at c.in-Ok-Some.ensures) c.loop.invariant
