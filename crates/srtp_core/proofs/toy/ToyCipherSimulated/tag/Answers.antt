use Rattle.std.proofs.Common.{ℕ, ◌∙◌, ◌+◌, ◌%◌, ap, arith, length}
use Rattle.std.specs.Prelude.{bit_xor, slice_index}
use Rattle.srtp_core.specs.Toy.{column}
use Rattle.srtp_core.proofs.Columns.{three_mixed}
use Rattle.srtp_core.proofs.toy.ToyCipherSimulated.tag.Goals as goal

pub returns : goal.returns
returns c =
    let second : ℕ = length c.args.aad1.now % 16 in
    let third : ℕ = (second + length c.args.aad2.now % 16) % 16 in
    three_mixed c.args.key.now c.args.iv.now c.args.aad1.now c.args.aad2.now c.args.text.now c.mix-3.new.tag second third c.mix-3.ensures.long (omega arith) (omega arith) (λ j h.
    c.mix-3.ensures.columns j h
    ∙ ap (λ w. bit_xor w (column j third c.args.text.now)) (c.mix-2.ensures.columns j h
    ∙ ap (λ w. bit_xor w (column j second c.args.aad2.now)) (c.mix.ensures.columns j h
    ∙ ap (λ w. bit_xor (slice_index w j) (column j 0 c.args.aad1.now)) (rw (← c.nonce_and_word.ensures) c.block-tag.ensures))))
