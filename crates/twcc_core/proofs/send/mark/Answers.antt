use Rattle.std.proofs.Common.{◌<◌, length, refl, ◌∙◌, arith}
use Rattle.std.proofs.lemmas.List.{length-set}
use Rattle.twcc_core.specs.Sending.{after_told}
use Rattle.twcc_core.proofs.Marking.{done_next}
use Rattle.twcc_core.proofs.Within.{marking_starts, marking_ends}
use Rattle.twcc_core.proofs.send.mark.Goals as goal

pub loop-i-init : goal.loop-i-init
loop-i-init c = record {
  as_long = refl;
  done = marking_starts c.args.first c.args.moments.now c.args.now c.args.records.now.items c.args.places.0 c.args.places.1 c.requires;
}

pub loop-i-preserved : goal.loop-i-preserved
loop-i-preserved c =
    let items = c.args.records.now.items in
    let within : c.loop-i.i < length items = omega (arith, c.loop-i-test.true, c.requires.bound) in
    let is = rw c.told.ensures at c.unwrap_or.ensures in
    record {
      as_long = length-set c.loop-i.records.items c.loop-i.i c.unwrap_or.result ∙ c.loop-i.invariant.as_long;
      done = done_next (after_told c.args.first c.args.moments.now c.args.now) c.loop-i.i items c.loop-i.records.items c.unwrap_or.result c.index.result.now within c.index.ensures is c.loop-i.invariant.done;
    }

pub returns : goal.returns
returns c =
    marking_ends c.args.first c.args.moments.now c.args.now c.args.records.now.items c.loop-i.records.items c.args.places.0 c.args.places.1 c.loop-i.i c.requires
    (omega (arith, c.loop-i-test.false)) (omega (arith, c.loop-i.auto.i-end, c.requires.order)) c.loop-i.invariant.done
