use Rattle.std.proofs.Common.{◌≡◌, ◌*◌, ◌/◌, ◌<◌, ◌≤◌, ◌⊎◌, ◌∙◌, length, get_or, inl, inr, arith}
use Rattle.std.specs.Prelude.{slice_index, bit_xor}
use Rattle.srtp_core.specs.Streams.{streamed, blocks_at}
use Rattle.srtp_core.specs.Toy.{word_block}
use Rattle.srtp_core.proofs.SimulatedLaws.{made}
use Rattle.srtp_core.proofs.Words.{in_block}
use Rattle.srtp_core.proofs.toy.xor_words.Goals as goal

pub returns : goal.returns
unfolding streamed
returns c =
    let input = c.args.input.now in
    let first = c.args.first.now in
    let out = c.xor_block.new.output in
    let q = length input / 16 in
    made (λ i. bit_xor (slice_index input i) (blocks_at (word_block first) i)) out (length input) (omega arith)
    (λ k h.
    let side : (k < 16 * q) ⊎ (16 * q ≤ k) = grind arith in
    elim side as (λ _. get_or out k 0 ≡ bit_xor (slice_index input k) (blocks_at (word_block first) k)) [
      | inl low ↦ c.xor_block.ensures.before k low ∙ c.loop-n.invariant.each k (omega arith)
      | inr high ↦ in_block out input c.stream_block-last.result (word_block first) q k c.stream_block-last.ensures high (omega arith) h c.xor_block.ensures.here
    ])
