use Rattle.std.proofs.Common.{◌≤◌, length, ap, ◌∙◌, arith}
use Rattle.indexmap.specs.IndexMap.{set_value_at}
use Rattle.stream_core.specs.Known.{renamed_to}
use Rattle.stream_core.proofs.Alongside.{each_all}
use Rattle.stream_core.proofs.TableSteps.{length_set_value_at, set_more}
use Rattle.stream_core.proofs.known_streams.rename_all.Goals as goal

pub loop-place-preserved : goal.loop-place-preserved
loop-place-preserved c = record {
  long = length_set_value_at c.loop-place.originals c.loop-place.place c.renamed.result ∙ c.loop-place.invariant.long;
  so_far = ap (set_value_at c.loop-place.originals c.loop-place.place) c.renamed.ensures
      ∙ set_more (renamed_to c.args.change.now) c.args.originals.now c.loop-place.originals c.loop-place.place c.at_mut-original.result.now c.loop-place.invariant.so_far c.at_mut-original.ensures.value;
}

pub returns : goal.returns
returns c =
    let long : length c.args.originals.now ≤ c.loop-place.place = omega arith in
    c.loop-place.invariant.so_far ∙ each_all (renamed_to c.args.change.now) c.args.originals.now c.loop-place.place long
