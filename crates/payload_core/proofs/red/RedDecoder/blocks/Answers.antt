use Rattle.std.proofs.Common.{◌∷◌, [], arith, length-append, sym}
use Rattle.payload_core.proofs.RedBlocks.{read_more, read_short, read_ends, pushed}
use Rattle.payload_core.proofs.red.RedDecoder.blocks.Goals as goal

pub returns-in_default : goal.returns-in_default
returns-in_default c = read_short _ _ _ _ _ _ c.loop-test.true (sym c.in_default.ensures) c.loop.invariant.0

pub loop-preserved : goal.loop-preserved
loop-preserved c = (
  rw (pushed _ _ _ c.push_reserved.ensures.items)
      (read_more _ _ _ _ _ _ _ _ _ c.loop-test.true (sym c.in-Some.ensures) c.split_at.ensures.back (omega (arith, c.split_at.ensures.back_len, c.loop.invariant.0.headed)) c.loop.invariant.0),
  rw c.push_reserved.ensures.items (omega (arith, length-append c.loop.blocks.items (c.in-Some.block ∷ []), c.loop.invariant.1)),
  omega (arith, c.push_reserved.ensures.capacity, c.loop.invariant.2),
)

pub returns : goal.returns
returns c =
    rw (pushed _ _ _ c.push_reserved-2.ensures.items, c.primary_block.ensures) (read_ends _ _ _ _ _ _ c.loop-test.false c.loop.invariant.0)
