use Rattle.std.proofs.Common.{◌≡◌, ◌-◌, length, drop, replicate, ap, ◌∙◌}
use Rattle.std.proofs.lemmas.List.{drop-replicate}
use Rattle.srtp_core.specs.Keys.{derivation_input}
use Rattle.srtp_core.proofs.keying.input_block.Goals as goal

pub returns : goal.returns
unfolding derivation_input
returns c =
    let back : c.split_at_mut-start.result.1.now ≡ replicate (14 - length c.args.salt.now) 0 =
    c.split_at_mut-start.ensures.back ∙ ap (drop (length c.args.salt.now)) c.split_at_mut-front.ensures.front ∙ drop-replicate (length c.args.salt.now) 14 0 in
    rw (c.copy_from_slice.ensures.after, back, c.copy_from_slice-2.ensures.after, c.to_be_bytes.ensures)
