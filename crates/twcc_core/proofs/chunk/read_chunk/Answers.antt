use Rattle.std.proofs.Common.{arith}
use Rattle.twcc_core.proofs.Symbols.{run_taken, bits_taken, pairs_taken}
use Rattle.twcc_core.proofs.chunk.read_chunk.Goals as goal

pub returns-then-chunk-lt32768 : goal.returns-then-chunk-lt32768
returns-then-chunk-lt32768 c =
    rw (run_taken c.args.chunk c.args.most (omega (arith, c.if-chunk-lt32768.true))) (rw (c.min.ensures, c.from-run.ensures) at c.read_run.ensures)

pub returns-then-chunk-lt49152 : goal.returns-then-chunk-lt49152
returns-then-chunk-lt49152 c =
    rw (bits_taken c.args.chunk c.args.most (omega (arith, c.if-chunk-lt32768.false)) (omega (arith, c.if-chunk-lt49152.true)), ← c.single_bits.ensures)
    (rw c.min-then-chunk-lt49152.ensures at c.read_statuses.ensures)

pub returns-else-chunk-lt49152 : goal.returns-else-chunk-lt49152
returns-else-chunk-lt49152 c =
    rw (pairs_taken c.args.chunk c.args.most (omega (arith, c.if-chunk-lt49152.false)), ← c.bit_pairs.ensures)
    (rw c.min-else-chunk-lt49152.ensures at c.read_statuses-else-chunk-lt49152.ensures)
