use Rattle.std.proofs.Common.{◌+◌, ◌-◌, ◌∙◌, sym, arith, rules}
use Rattle.mapping_core.proofs.Drawing.{drawn_at_once, drawn_later, drawn_none}
use Rattle.mapping_core.proofs.draw.draw.Goals as goal

pub returns-then-is_apart-clause-drawn : goal.returns-then-is_apart-clause-drawn
returns-then-is_apart-clause-drawn g c =
    drawn_at_once (c.args.tries - c.loop.counter) _ _ _ _ _ (omega (arith, c.loop-test.true)) c.next_u32.ensures (search rules) (search rules)
    ∙ sym c.loop.invariant

pub loop-preserved : goal.loop-preserved
loop-preserved g c = c.loop.invariant
    ∙ drawn_later (c.args.tries - c.loop.counter) (c.args.tries - (c.loop.counter + 1)) _ _ _ _ _ (omega (arith, c.loop-test.true)) c.next_u32.ensures c.from-ssrc.ensures (search rules)

pub returns-clause-drawn : goal.returns-clause-drawn
returns-clause-drawn g c = drawn_none (c.args.tries - c.loop.counter) _ _ (omega (arith, c.loop-test.false)) ∙ sym c.loop.invariant
