use Rattle.std.proofs.Common.{◌<◌, length, rules, sym}
use Rattle.rtcp_wire.proofs.Chunks.{list_more, list_ends}
use Rattle.rtcp_wire.proofs.source.read_items.Goals as goal

pub returns-then-rest-eq0-clause-found : goal.returns-then-rest-eq0-clause-found
returns-then-rest-eq0-clause-found c =
    let some : 0 < length c.loop.rest.now = search rules in
    list_ends c.loop.values c.loop.counter c.loop.rest.now c.args.bytes.now c.loop-test.true some c.if-rest-eq0.true c.loop.invariant

pub loop-preserved : goal.loop-preserved
loop-preserved c =
    let some : 0 < length c.loop.rest.now = search rules in
    rw c.in_ok-keep_item.ensures (list_more c.loop.values c.loop.counter c.loop.rest.now c.in-Some.item.rest.now c.args.bytes.now _ c.loop-test.true some c.if-rest-eq0.false (sym c.in-Some.ensures) c.loop.invariant)
