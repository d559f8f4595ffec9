use Rattle.std.proofs.Common.{◌≡◌, true, ◌∙◌, length, take, ap, arith}
use Rattle.std.proofs.lemmas.List.{take_at}
use Rattle.srtp_core.specs.Streams.{streamed}
use Rattle.srtp_core.proofs.SimulatedLaws.{length-streamed}
use Rattle.srtp_core.specs.Seals.{cm_iv, cm_sealed_rtp}
use Rattle.srtp_core.proofs.CmParts.{rtp_opens, rtp_code, rtp_short}
use Rattle.srtp_core.proofs.cm.open_rtp.Goals as goal

pub returns-then-buf-header_len-lt-HMAC_TAG_LEN-clause-none :
    goal.returns-then-buf-header_len-lt-HMAC_TAG_LEN-clause-none
returns-then-buf-header_len-lt-HMAC_TAG_LEN-clause-none g c =
    λ payload e. rtp_short g.C.SrtpCipher.meaning (g.C.SrtpCipher.bytes_128 c.args.keys.now.key) c.args.keys.now.authentication c.args.keys.now.salt c.args.ssrc c.args.index c.args.header_len c.args.buf.now payload c.requires.header (omega arith) e

pub returns-then-not-rtp_verify-clause-none : goal.returns-then-not-rtp_verify-clause-none
returns-then-not-rtp_verify-clause-none g c =
    λ payload e.
    let yes : c.rtp_verify.result ≡ true = c.rtp_verify.ensures.1 (rtp_code g.C.SrtpCipher.meaning (g.C.SrtpCipher.bytes_128 c.args.keys.now.key) c.args.keys.now.authentication c.args.keys.now.salt c.args.ssrc c.args.index c.args.header_len c.args.buf.now c.split_at.result.0.now c.split_at.result.1.now payload (omega arith) c.split_at.ensures.front c.split_at.ensures.back e) in
    cc

pub returns-clause-opens : goal.returns-clause-opens
returns-clause-opens g c =
    let cipher = g.C.SrtpCipher.meaning in
    let key = g.C.SrtpCipher.bytes_128 c.args.keys.now.key in
    let authentication = c.args.keys.now.authentication in
    let salt = c.args.keys.now.salt in
    let body = c.split_at-2.result.1.now in
    let made : c.ctr.new.output ≡ streamed (cipher.keystream key (cm_iv salt c.args.ssrc c.args.index)) body =
    c.ctr.ensures ∙ ap (λ v. streamed (cipher.keystream key v) body) c.rtp_iv.ensures in
    let size : length c.ctr.new.output ≡ length body = ap length made ∙ length-streamed (cipher.keystream key (cm_iv salt c.args.ssrc c.args.index)) body in
    ap (λ o. cm_sealed_rtp cipher key authentication salt c.args.ssrc c.args.index (take c.args.header_len c.args.buf.now) o) (take_at c.ctr.new.output c.split_at_mut-front.result.1.now (length body) size)
    ∙ rtp_opens cipher key authentication salt c.args.ssrc c.args.index c.args.header_len c.args.buf.now c.split_at.result.0.now c.split_at.result.1.now c.ctr.new.output (omega arith) c.split_at.ensures.front c.split_at.ensures.back
    (c.rtp_verify.ensures.0 c.if-not-rtp_verify.false) (made ∙ ap (streamed (cipher.keystream key (cm_iv salt c.args.ssrc c.args.index))) c.split_at-2.ensures.back)
