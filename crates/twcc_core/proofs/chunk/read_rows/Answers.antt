use Rattle.std.proofs.Common.{◌∙◌, ap, ℕ, ◌-◌, length, arith}
use Rattle.twcc_core.specs.Chunks.{chunk_symbols}
use Rattle.twcc_core.proofs.Symbols.{said_starts, said_more}
use Rattle.twcc_core.proofs.chunk.read_rows.Goals as goal

pub loop-left-init : goal.loop-left-init
loop-left-init c = rw c.in_ok-rows.ensures (said_starts c.args.count c.args.chunks.now c.args.deltas.now)

pub loop-left-preserved : goal.loop-left-preserved
loop-left-preserved c =
    let told = c.symbol_count.ensures ∙ ap (λ (h : ℕ). length (chunk_symbols h)) c.half-chunk.ensures in
    said_more c.loop-left.rows c.read_chunk.new.rows c.loop-left.left c.saturating_sub-left.result c.loop-left.rest.now c.split_at.result.1.now c.loop-left.unread.now c.in-Some.after.now _
    (omega (arith, c.loop-left-test.true)) (omega (arith, c.if-rest-lt2.false)) (rw (c.half-chunk.ensures, c.in-Some.is) at c.in_ok-after.ensures)
    (c.saturating_sub-left.ensures ∙ ap (λ (n : ℕ). c.loop-left.left - n) told) c.split_at.ensures.back c.loop-left.invariant
