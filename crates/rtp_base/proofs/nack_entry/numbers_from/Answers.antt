use Rattle.std.proofs.Common.{◌≡◌, ◌∙◌, arith}
use Rattle.rtp_base.proofs.nack_entry.numbers_from.Goals as goal

pub returns : goal.returns
returns c =
    let i : c.loop-i.i ≡ 16 = omega arith in
    c.into_iter.ensures.into_iter_gives.0 ∙ rw i at c.loop-i.invariant.so_far
