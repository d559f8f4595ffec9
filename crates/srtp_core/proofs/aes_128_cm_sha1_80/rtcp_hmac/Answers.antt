use Rattle.std.proofs.Common.{◌≡◌, ◌+◌, ◌++◌, ◌∙◌, take, drop, ap, sym, append_assoc}
use Rattle.std.proofs.lemmas.List.{drop-drop}
use Rattle.srtp_core.specs.Hmac.{hmac_of}
use Rattle.srtp_core.proofs.aes_128_cm_sha1_80.rtcp_hmac.Goals as goal

pub returns : goal.returns
returns c =
    let n = c.args.hmac_index in
    let behind : c.split_at_mut-tag.result.1.now ≡ drop (n + 10) c.args.buf.now = c.split_at_mut-tag.ensures.back ∙ ap (drop 10) c.split_at_mut-text.ensures.back ∙ drop-drop 10 n c.args.buf.now in
    let tag : c.copy_from_slice.new.self ≡ take 10 (hmac_of c.args.key.now (take c.args.hmac_index c.args.buf.now)) = c.copy_from_slice.ensures.after ∙ c.rtcp_tag.ensures ∙ ap (λ x. take 10 (hmac_of c.args.key.now x)) c.split_at_mut-text.ensures.front in
    ap (λ x. x ++ (c.copy_from_slice.new.self ++ c.split_at_mut-tag.result.1.now)) c.split_at_mut-text.ensures.front
    ∙ ap (λ x. take n c.args.buf.now ++ (x ++ c.split_at_mut-tag.result.1.now)) tag
    ∙ ap (λ x. take n c.args.buf.now ++ (take 10 (hmac_of c.args.key.now (take c.args.hmac_index c.args.buf.now)) ++ x)) behind
    ∙ sym (append_assoc (take n c.args.buf.now) (take 10 (hmac_of c.args.key.now (take c.args.hmac_index c.args.buf.now))) (drop (n + 10) c.args.buf.now))
