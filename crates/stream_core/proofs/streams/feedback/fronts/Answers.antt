use Rattle.std.proofs.Common.{◌<◌, ◌≤◌, length, ap, subst, sym, ◌∙◌, arith}
use Rattle.std.specs.List.{AllByRecursion}
use Rattle.stream_core.specs.Reporting.{IsBrief, front_count, is_among}
use Rattle.stream_core.specs.RxRecord.{StandsFor}
use Rattle.stream_core.proofs.Alongside.{length_along}
use Rattle.stream_core.proofs.RepairSteps.{on_err}
use Rattle.stream_core.proofs.RxSteps.{all_more}
use Rattle.stream_core.proofs.TickSteps.{counted_more, made_more, made_all, some_counted}
use Rattle.stream_core.proofs.streams.feedback.fronts.Goals as goal

pub returns-in_err-push_front-clause-cause : goal.returns-in_err-push_front-clause-cause
returns-in_err-push_front-clause-cause g c =
    let x = c.at-stream.result.now in
    let which = c.is_among-reports.ensures ∙ ap (λ m. is_among m c.args.mids.now) c.mid.ensures in
    on_err c.from_residual.result _
    (some_counted c.args.mids.now c.args.streams.now c.loop-place.place x c.at-stream.ensures (subst (λ b. 0 < front_count b x.state) which c.in_err-push_front.ensures.cause))

pub loop-place-preserved : goal.loop-place-preserved
loop-place-preserved g c =
    let l = c.loop-place.invariant in
    let k = c.in_ok-push_front.ensures in
    let x = c.at-stream.result.now in
    let i = c.loop-place.place in
    let which = c.is_among-reports.ensures ∙ ap (λ m. is_among m c.args.mids.now) c.mid.ensures in
    let one = ap (λ b. front_count b x.state) which in
    let all = counted_more c.args.mids.now c.args.streams.now i x c.at-stream.ensures in
    let l_count = l.count in
    let l_len = l.len in
    let k_count = k.count in
    let k_len = k.len in
    let more = k.brief in
    record {
      items = λ rs h. made_more g.W.GapWindow.remembers c.args.tick.now c.args.mids.now c.args.streams.now rs i x c.is_among-reports.result c.loop-place.made.items c.push_front.new.items.items
          h c.at-stream.ensures which k.items (l.items rs h);
      count = omega arith;
      len = omega arith;
      brief = subst (AllByRecursion IsBrief) (sym more.1) (all_more IsBrief c.loop-place.made.items more.0 l.brief more.2);
    }

pub returns-clause-items : goal.returns-clause-items
returns-clause-items g c = λ rs h.
    let same = length_along (StandsFor g.W.GapWindow.remembers) c.args.streams.now rs h in
    let ended = c.loop-place-test.false in
    let count = c.len-place-end.ensures in
    let long : length rs ≤ c.loop-place.place = omega arith in
    c.loop-place.invariant.items rs h ∙ made_all c.args.tick.now c.args.mids.now rs c.loop-place.place long
