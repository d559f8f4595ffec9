use Rattle.std.proofs.Common.{◌∙◌, ap, arith}
use Rattle.srtp_core.specs.Toy.{toy_block}
use Rattle.srtp_core.proofs.Words.{words_are_nonces}
use Rattle.srtp_core.proofs.toy.ToyCipherSimulated.xor_text.Goals as goal

pub returns : goal.returns
returns c =
    c.xor_words.ensures
    ∙ words_are_nonces c.args.key.now c.args.iv.now c.block-first.result c.args.input.now (omega arith) (c.block-first.ensures ∙ ap (toy_block c.args.key.now) c.nonce_and_word.ensures)
