use Rattle.std.proofs.Common.{◌∙◌, ap, length, ◌++◌, sym}
use Rattle.std.proofs.lemmas.Slice.Eq.{slice_eq-Decides}
use Rattle.std.proofs.lemmas.Bool.Decides.{Decides-eqb}
use Rattle.srtp_core.specs.Streams.{streamed}
use Rattle.srtp_core.specs.Simulated.{nonce_stream}
use Rattle.srtp_core.proofs.TextOpens.{text_opened, text_opens}
use Rattle.srtp_core.proofs.simulated.open.Goals as goal

pub returns-clause-opens : goal.returns-clause-opens
returns-clause-opens g c h =
    let S = g.S.Simulated in
    let B = g.S.BlockCipher in
    text_opened B.block_of S.tag_of g.met.S.Simulated.tag_len c.args.key.now c.args.iv.now (c.args.aad1.now ++ c.args.aad2.now) c.args.input.now c.xor_text.new.output c.tag-tag.result (length c.args.output.now)
    (c.xor_text.ensures ∙ ap (streamed (nonce_stream B.block_of c.args.key.now c.args.iv.now)) c.split_at.ensures.front) c.tag-tag.ensures
    (sym c.split_at.ensures.back ∙ (slice_eq-Decides Decides-eqb _ _ _ c.eq.ensures).0 h ∙ c.as_slice.ensures)

pub returns-clause-only : goal.returns-clause-only
returns-clause-only g c plain h =
    let S = g.S.Simulated in
    let B = g.S.BlockCipher in
    (slice_eq-Decides Decides-eqb _ _ _ c.eq.ensures).1
    (c.split_at.ensures.back
    ∙ text_opens B.block_of S.tag_of g.met.S.Simulated.tag_len c.args.key.now c.args.iv.now (c.args.aad1.now ++ c.args.aad2.now) c.args.input.now c.xor_text.new.output c.tag-tag.result (length c.args.output.now) c.requires.input
    (c.xor_text.ensures ∙ ap (streamed (nonce_stream B.block_of c.args.key.now c.args.iv.now)) c.split_at.ensures.front) c.tag-tag.ensures plain h
    ∙ sym c.as_slice.ensures)
