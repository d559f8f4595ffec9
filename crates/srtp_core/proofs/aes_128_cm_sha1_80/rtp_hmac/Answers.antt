use Rattle.std.proofs.Common.{◌≡◌, ◌+◌, ◌++◌, ◌∙◌, take, drop, ap, sym, append_assoc}
use Rattle.std.proofs.lemmas.List.{drop-drop}
use Rattle.srtp_core.specs.Seals.{cm_rtp_tag}
use Rattle.srtp_core.proofs.aes_128_cm_sha1_80.rtp_hmac.Goals as goal

pub returns : goal.returns
returns c =
    let n = c.args.hmac_start in
    let behind : c.split_at_mut-tag.result.1.now ≡ drop (n + 10) c.args.buf.now = c.split_at_mut-tag.ensures.back ∙ ap (drop 10) c.split_at_mut-text.ensures.back ∙ drop-drop 10 n c.args.buf.now in
    let tag : c.copy_from_slice.new.self ≡ cm_rtp_tag c.args.key.now c.args.srtp_index (take c.args.hmac_start c.args.buf.now) = c.copy_from_slice.ensures.after ∙ c.rtp_tag.ensures ∙ ap (λ x. cm_rtp_tag c.args.key.now c.args.srtp_index x) c.split_at_mut-text.ensures.front in
    ap (λ x. x ++ (c.copy_from_slice.new.self ++ c.split_at_mut-tag.result.1.now)) c.split_at_mut-text.ensures.front
    ∙ ap (λ x. take n c.args.buf.now ++ (x ++ c.split_at_mut-tag.result.1.now)) tag
    ∙ ap (λ x. take n c.args.buf.now ++ (cm_rtp_tag c.args.key.now c.args.srtp_index (take c.args.hmac_start c.args.buf.now) ++ x)) behind
    ∙ sym (append_assoc (take n c.args.buf.now) (cm_rtp_tag c.args.key.now c.args.srtp_index (take c.args.hmac_start c.args.buf.now)) (drop (n + 10) c.args.buf.now))
