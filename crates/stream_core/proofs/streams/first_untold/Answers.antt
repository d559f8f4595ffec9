use Rattle.std.proofs.Common.{◌≤◌, length, sym, ◌∙◌, arith}
use Rattle.stream_core.specs.Pauses.{view_untold}
use Rattle.stream_core.proofs.Untold.{none_more, found_at, found_none}
use Rattle.stream_core.proofs.streams.first_untold.Goals as goal

pub loop-place-preserved : goal.loop-place-preserved
loop-place-preserved g c = record {
  before = none_more view_untold c.args.streams.now c.loop-place.place c.at.result.now c.loop-place.invariant.before c.at.ensures (sym c.is_untold.ensures ∙ c.if-is_untold.false);
}

pub returns-then-is_untold-clause-place : goal.returns-then-is_untold-clause-place
returns-then-is_untold-clause-place g c =
    found_at view_untold c.args.streams.now c.loop-place.place c.at.result.now c.loop-place.invariant.before c.at.ensures (sym c.is_untold.ensures ∙ c.if-is_untold.true)

pub returns-clause-place : goal.returns-clause-place
returns-clause-place g c =
    let long : length c.args.streams.now ≤ c.loop-place.place = omega arith in
    found_none view_untold c.args.streams.now c.loop-place.place c.loop-place.invariant.before long
