use Rattle.std.proofs.Common.{◌∙◌, sym}
use Rattle.twcc_core.proofs.Keeping.{all_above}
use Rattle.twcc_core.proofs.receive.forget_to.Goals as goal

pub returns-then-last-first : goal.returns-then-last-first
returns-then-last-first c =
    sym (all_above c.args.last c.in-Some.first.now c.loop-first.map.entries c.if-last-first.true c.in-Some.ensures.all_from) ∙ c.loop-first.invariant
