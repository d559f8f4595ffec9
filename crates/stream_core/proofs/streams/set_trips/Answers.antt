use Rattle.std.proofs.Common.{◌≤◌, length, ap, ◌∙◌, arith}
use Rattle.indexmap.specs.IndexMap.{set_value_at}
use Rattle.stream_core.specs.Pauses.{on_view, with_trip}
use Rattle.stream_core.proofs.Alongside.{each_all}
use Rattle.stream_core.proofs.TableSteps.{length_set_value_at, set_more}
use Rattle.stream_core.proofs.streams.set_trips.Goals as goal

pub loop-place-preserved : goal.loop-place-preserved
loop-place-preserved g c = record {
  long = length_set_value_at c.loop-place.streams c.loop-place.place c.set_trip.new.self ∙ c.loop-place.invariant.long;
  so_far = ap (set_value_at c.loop-place.streams c.loop-place.place) c.set_trip.ensures
      ∙ set_more (on_view (with_trip c.args.trip.now)) c.args.streams.now c.loop-place.streams c.loop-place.place c.at_mut.result.now c.loop-place.invariant.so_far c.at_mut.ensures.value;
}

pub returns : goal.returns
returns g c =
    let long : length c.args.streams.now ≤ c.loop-place.place = omega arith in
    c.loop-place.invariant.so_far ∙ each_all (on_view (with_trip c.args.trip.now)) c.args.streams.now c.loop-place.place long
