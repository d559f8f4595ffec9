use Rattle.std.proofs.Common.{◌≡◌, ◌<◌, ◌+◌, ◌-◌, ◌/◌, ◌*◌, ◌^◌, ◌≤◌, List, sym, ◌∙◌, subst, arith, length, Less, Equal, Greater}
use Rattle.std.proofs.lemmas.List.{get_or_default}
use Rattle.std.proofs.lemmas.Cmp.{ranked}
use Rattle.queue_store.specs.declared.stamps.Stamp.{Stamp}
use Rattle.queue_store.specs.Stamps.{IsFound, stamp_at, no_stamp}
use Rattle.queue_store.proofs.StampLaws.{goes_up, goes_down, rises_order}
use Rattle.queue_store.proofs.StepLaws.{halved_up, halved_down, doubled, left_up, left_down}
use Rattle.queue_store.proofs.stamps.Stamps.search_counted.Goals as goal

pub loop-low-preserved-in-Less : goal.loop-low-preserved-in-Less
loop-low-preserved-in-Less g c =
    let items = c.self.inside.all.items in
    let middle = c.loop-low.low + (c.loop-low.high - c.loop-low.low) / 2 in
    let within : middle < length items = omega (arith, c.loop-low.invariant.within) in
    let is : stamp_at items middle ≡ c.index.result.now = get_or_default items middle no_stamp c.index.result.now within ∙ sym c.index.ensures in
    record {
      ordered = omega arith;
      within = c.loop-low.invariant.within;
      later = omega (arith, c.loop-low.invariant.later, c.tick.ensures);
      halves = halved_up c.loop-low.low c.loop-low.high (length items) c.args.steps.now c.loop-low.steps c.tick.new.self c.loop-low-test.true c.loop-low.invariant.later c.tick.ensures c.loop-low.invariant.halves;
      counted = left_up c.loop-low.low c.loop-low.high (length items) c.args.steps.now c.loop-low.steps c.tick.new.self c.loop-low-test.true c.loop-low.invariant.later c.tick.ensures c.loop-low.invariant.counted;
      cost = doubled c.loop-low.low c.loop-low.high (length items) c.args.steps.now c.loop-low.steps c.tick.new.self c.loop-low-test.true c.loop-low.invariant.later c.tick.ensures c.loop-low.invariant.halves;
      below = goes_up items c.args.position c.loop-low.low middle c.self.invariant.0 within
          (subst (λ (s : Stamp). s.position < c.args.position) (sym is) (ranked c.index.result.now.position c.args.position Less (sym c.in-Less.is ∙ c.cmp.ensures)));
      above = c.loop-low.invariant.above;
    }

pub loop-low-preserved : goal.loop-low-preserved
loop-low-preserved g c =
    let items = c.self.inside.all.items in
    let middle = c.loop-low.low + (c.loop-low.high - c.loop-low.low) / 2 in
    let within : middle < length items = omega (arith, c.loop-low.invariant.within) in
    let is : stamp_at items middle ≡ c.index.result.now = get_or_default items middle no_stamp c.index.result.now within ∙ sym c.index.ensures in
    record {
      ordered = omega arith;
      within = omega (arith, c.loop-low.invariant.within);
      later = omega (arith, c.loop-low.invariant.later, c.tick.ensures);
      halves = halved_down c.loop-low.low c.loop-low.high (length items) c.args.steps.now c.loop-low.steps c.tick.new.self c.loop-low-test.true c.loop-low.invariant.later c.tick.ensures c.loop-low.invariant.halves;
      counted = left_down c.loop-low.low c.loop-low.high (length items) c.args.steps.now c.loop-low.steps c.tick.new.self c.loop-low-test.true c.loop-low.invariant.later c.tick.ensures c.loop-low.invariant.counted;
      cost = doubled c.loop-low.low c.loop-low.high (length items) c.args.steps.now c.loop-low.steps c.tick.new.self c.loop-low-test.true c.loop-low.invariant.later c.tick.ensures c.loop-low.invariant.halves;
      below = c.loop-low.invariant.below;
      above = goes_down items c.args.position middle c.self.invariant.0
          (subst (λ (s : Stamp). c.args.position < s.position) (sym is) (ranked c.index.result.now.position c.args.position Greater (sym c.in-Greater.is ∙ c.cmp.ensures)));
    }

pub returns-in-Equal : goal.returns-in-Equal
returns-in-Equal g c =
    let items = c.self.inside.all.items in
    let middle = c.loop-low.low + (c.loop-low.high - c.loop-low.low) / 2 in
    let within : middle < length items = omega (arith, c.loop-low.invariant.within) in
    let is : stamp_at items middle ≡ c.index.result.now = get_or_default items middle no_stamp c.index.result.now within ∙ sym c.index.ensures in
    let here : (stamp_at items middle).position ≡ c.args.position = subst (λ (s : Stamp). s.position ≡ c.args.position) (sym is) (ranked c.index.result.now.position c.args.position Equal (sym c.in-Equal.is ∙ c.cmp.ensures)) in
    record {
      found = subst (λ (l : List Stamp). IsFound l c.args.position middle) c.self.view_is (record { within = within; here = here; below = λ k lt. omega (arith, rises_order 0 items k middle c.self.invariant.0 lt within, here) });
      missed = tt;
      counted = tt;
      cost = subst (λ (l : List Stamp). 2 ^ (c.tick.new.self - c.args.steps.now) ≤ 2 * length l + 1) c.self.view_is (doubled c.loop-low.low c.loop-low.high (length items) c.args.steps.now c.loop-low.steps c.tick.new.self c.loop-low-test.true c.loop-low.invariant.later c.tick.ensures c.loop-low.invariant.halves);
    }
