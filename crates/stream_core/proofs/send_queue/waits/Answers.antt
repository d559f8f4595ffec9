use Rattle.std.proofs.Common.{◌<◌, ◌+◌, Option, ℕ, length, drop, sym, ap, ◌∙◌, arith}
use Rattle.media_units.specs.Soonest.{earlier}
use Rattle.stream_core.specs.Queue.{stamps_of, earliest_of}
use Rattle.stream_core.proofs.Totals.{waits_at, earliest_at, sooner_assoc}
use Rattle.stream_core.proofs.send_queue.waits.Goals as goal

pub loop-place-preserved : goal.loop-place-preserved
loop-place-preserved c =
    let all = c.args.packets.now.items in
    let i = c.loop-place.place in
    let lt : i < length all = omega (arith, c.loop-place-test.true, c.len-place-end.ensures, c.args.packets.now.ok.0) in
    let first = c.loop-place.first in
    let rest : Option ℕ = earliest_of (stamps_of (drop (i + 1) all)) in
    let more = waits_at c.args.now all i c.index.result.now lt c.index.ensures in
    record {
      total = omega arith;
      first =
          ap (λ f. earlier f rest) c.earlier-first.ensures
          ∙ sooner_assoc first c.stamp.result rest
          ∙ ap (λ s. earlier first (earlier s rest)) c.stamp.ensures
          ∙ ap (earlier first) (sym (earliest_at all i c.index-in-loop-place.result.now lt c.index-in-loop-place.ensures))
          ∙ c.loop-place.invariant.first;
      fits = omega arith;
    }
