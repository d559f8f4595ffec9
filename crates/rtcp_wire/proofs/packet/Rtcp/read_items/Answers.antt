use Rattle.std.proofs.Common.{◌/◌, length, sym}
use Rattle.rtcp_wire.specs.Items.{items_of}
use Rattle.rtcp_wire.proofs.Reading.{read_fails, read_more, read_starts}
use Rattle.rtcp_wire.proofs.packet.Rtcp.read_items.Goals as goal

pub loop-init : goal.loop-init
loop-init c = read_starts c.args.items.now.items c.args.bytes.now

pub returns-in-Err-clause-err : goal.returns-in-Err-clause-err
returns-in-Err-clause-err c = rw c.in-Err.ensures.err (read_fails _ _ _ _ _ c.loop.invariant)

pub loop-preserved : goal.loop-preserved
loop-preserved c =
    let follows = rw c.in-Ok-Some.field-0-is at c.in-Ok-Some.ensures.rest in
    read_more c.args.items.now.items c.loop.items.items c.read_first.new.items.items (length c.args.bytes.now / 4) c.loop.counter c.loop.rest.now c.in-Ok-Some.after.now (items_of c.args.bytes.now) c.loop-test.true (sym follows) c.in-Ok-Some.ensures.items c.loop.invariant
