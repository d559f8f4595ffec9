use Rattle.std.proofs.Common.{◌≡◌, Some, rules}
use Rattle.rtcp_wire.specs.Descriptions.{sdes_at}
use Rattle.rtcp_wire.proofs.Chunks.{read_more}
use Rattle.rtcp_wire.proofs.source.read_descriptions.Goals as goal

pub loop-preserved : goal.loop-preserved
loop-preserved c =
    let found : sdes_at c.loop.rest.now ≡ Some (c.in-Ok-Some.sdes, c.in-Ok-Some.after.now) = search rules in
    rw c.in_ok-push-in-Ok-Some.ensures.ok (read_more c.loop.reports c.in-Ok-Some.sdes c.args.count c.loop.counter c.loop.rest.now c.in-Ok-Some.after.now _ c.loop-test.true found c.loop.invariant)
