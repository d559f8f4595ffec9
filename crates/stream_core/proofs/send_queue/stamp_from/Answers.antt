use Rattle.std.proofs.Common.{◌<◌, length, set, ap, ◌∙◌, arith}
use Rattle.std.proofs.lemmas.List.Edits.{map_over_more}
use Rattle.stream_core.specs.Queue.{with_stamp}
use Rattle.stream_core.proofs.Totals.{same_at, bytes_at}
use Rattle.stream_core.proofs.send_queue.stamp_from.Goals as goal

pub loop-place-preserved : goal.loop-place-preserved
loop-place-preserved c =
    let packets = c.loop-place.packets.items in
    let all = c.args.packets.now.items in
    let i = c.loop-place.place in
    let x = c.index_mut.result.now in
    let lt : i < length all = omega (arith, c.loop-place-test.true, c.len-place-end.ensures, c.args.packets.now.ok.0) in
    let more = bytes_at all i x lt (same_at c.args.now all packets i x lt c.loop-place.invariant.stamped c.index_mut.ensures.value) in
    record {
      stamped = ap (set packets i) c.stamp_at.ensures.stamp ∙ map_over_more (with_stamp c.args.now) all packets i x lt c.loop-place.invariant.stamped c.index_mut.ensures.value;
      bytes = omega (arith, c.stamp_at.ensures.bytes);
      few = omega (arith, c.stamp_at.ensures.few);
    }
