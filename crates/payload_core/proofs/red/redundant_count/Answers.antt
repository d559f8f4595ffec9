use Rattle.std.proofs.Common.{arith, rules}
use Rattle.payload_core.proofs.RedCount.{count_more}
use Rattle.payload_core.proofs.red.redundant_count.Goals as goal

pub loop-count-preserved : goal.loop-count-preserved
loop-count-preserved c =
    count_more c.loop-count.count c.loop-count.rest.now c.split_at.result.1.now c.args.bytes.now c.if-rest-lt4.false c.if-rest-lt128.false (search rules) (omega (arith, c.split_at.ensures.back_len)) c.loop-count.invariant
