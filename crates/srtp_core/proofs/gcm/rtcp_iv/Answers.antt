use Rattle.std.proofs.Common.{◌≡◌, ◌∙◌, ap, take, [], ◌∷◌}
use Rattle.media_base.specs.Text.{xored}
use Rattle.srtp_core.specs.Seals.{gcm_rtcp_iv}
use Rattle.srtp_core.proofs.gcm.rtcp_iv.Goals as goal

pub returns : goal.returns
unfolding gcm_rtcp_iv
returns c =
    let zeros : c.split_at_mut-source.result.0.now ≡ 0 ∷ 0 ∷ [] = c.split_at_mut-source.ensures.front ∙ ap (take 2) c.split_at_mut-zeros_and_ssrc.ensures.front in
    let more : c.split_at_mut-number.result.0.now ≡ 0 ∷ 0 ∷ [] = c.split_at_mut-number.ensures.front ∙ ap (take 2) c.split_at_mut-zeros_and_ssrc.ensures.back in
    c.xor_into.ensures ∙ ap (λ x. xored x c.args.salt) (rw (zeros, more, c.copy_from_slice.ensures.after, c.copy_from_slice-2.ensures.after, c.to_be_bytes.ensures, c.to_be_bytes-2.ensures))
