use Rattle.std.proofs.Common.{◌∙◌, ap, ℕ, ◌-◌, length, arith}
use Rattle.twcc_core.specs.Chunks.{chunk_symbols}
use Rattle.twcc_core.proofs.Symbols.{passed_starts, passed_more}
use Rattle.twcc_core.proofs.chunk.after_chunks.Goals as goal

pub loop-left-init : goal.loop-left-init
loop-left-init c = passed_starts c.args.count c.args.bytes.now

pub loop-left-preserved : goal.loop-left-preserved
loop-left-preserved c =
    let told = c.symbol_count.ensures ∙ ap (λ (h : ℕ). length (chunk_symbols h)) c.half.ensures in
    passed_more c.loop-left.left c.saturating_sub-left.result c.loop-left.rest.now c.split_at.result.1.now _ (omega (arith, c.loop-left-test.true)) (omega (arith, c.if-rest-lt2.false))
    (c.saturating_sub-left.ensures ∙ ap (λ (n : ℕ). c.loop-left.left - n) told) c.split_at.ensures.back c.loop-left.invariant
