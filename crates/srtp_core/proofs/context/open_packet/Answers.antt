use Rattle.std.proofs.Common.{ℕ, List}
use Rattle.srtp_core.specs.RtcpSeals.{RtcpOpensTo, GcmRtcpOpens}
use Rattle.srtp_core.specs.CmSeals.{CmRtcpOpens}
use Rattle.srtp_core.specs.Views.{cm_session, gcm_session}
use Rattle.srtp_core.specs.declared.profile.SrtpProfile.TheVariants.{Aes128CmSha1_80, AeadAes128Gcm, AeadAes256Gcm}
use Rattle.srtp_core.proofs.Results.{some_along, none_along, opens_cm, of_cm, opens_128, of_128, opens_256, of_256}
use Rattle.srtp_core.proofs.context.open_packet.Goals as goal

pub returns-in-Cm-clause-some : goal.returns-in-Cm-clause-some
returns-in-Cm-clause-some g c =
    let cipher = g.C.SrtpCipher.meaning in
    let keys = cm_session g.C.SrtpCipher.bytes_128 c.in-Cm.direction in
    rw c.in-Cm.is (some_along (λ v. CmRtcpOpens cipher keys.rtcp_key keys.rtcp_authentication keys.rtcp_salt c.args.buf.now v.items) (λ v. RtcpOpensTo cipher Aes128CmSha1_80 keys c.args.buf.now v.items) c.open_rtcp.result (λ v. opens_cm cipher keys c.args.buf.now v.items) c.open_rtcp.ensures.some)

pub returns-in-Cm-clause-none : goal.returns-in-Cm-clause-none
returns-in-Cm-clause-none g c =
    let cipher = g.C.SrtpCipher.meaning in
    let keys = cm_session g.C.SrtpCipher.bytes_128 c.in-Cm.direction in
    rw c.in-Cm.is (none_along ((p : List ℕ) → CmRtcpOpens cipher keys.rtcp_key keys.rtcp_authentication keys.rtcp_salt c.args.buf.now p → ⊥) ((p : List ℕ) → RtcpOpensTo cipher Aes128CmSha1_80 keys c.args.buf.now p → ⊥) c.open_rtcp.result (λ h p o. h p (of_cm cipher keys c.args.buf.now p o)) c.open_rtcp.ensures.none)

pub returns-in-Gcm128-clause-some : goal.returns-in-Gcm128-clause-some
returns-in-Gcm128-clause-some g c =
    let cipher = g.C.SrtpCipher.meaning in
    let keys = gcm_session c.in-Gcm128.direction in
    rw c.in-Gcm128.is (some_along (λ v. GcmRtcpOpens cipher keys.rtcp_key keys.rtcp_salt c.args.buf.now v.items) (λ v. RtcpOpensTo cipher AeadAes128Gcm keys c.args.buf.now v.items) c.open_rtcp-in-Gcm128.result (λ v. opens_128 cipher keys c.args.buf.now v.items) c.open_rtcp-in-Gcm128.ensures.some)

pub returns-in-Gcm128-clause-none : goal.returns-in-Gcm128-clause-none
returns-in-Gcm128-clause-none g c =
    let cipher = g.C.SrtpCipher.meaning in
    let keys = gcm_session c.in-Gcm128.direction in
    rw c.in-Gcm128.is (none_along ((p : List ℕ) → GcmRtcpOpens cipher keys.rtcp_key keys.rtcp_salt c.args.buf.now p → ⊥) ((p : List ℕ) → RtcpOpensTo cipher AeadAes128Gcm keys c.args.buf.now p → ⊥) c.open_rtcp-in-Gcm128.result (λ h p o. h p (of_128 cipher keys c.args.buf.now p o)) c.open_rtcp-in-Gcm128.ensures.none)

pub returns-in-Gcm256-clause-some : goal.returns-in-Gcm256-clause-some
returns-in-Gcm256-clause-some g c =
    let cipher = g.C.SrtpCipher.meaning in
    let keys = gcm_session c.in-Gcm256.direction in
    rw c.in-Gcm256.is (some_along (λ v. GcmRtcpOpens cipher keys.rtcp_key keys.rtcp_salt c.args.buf.now v.items) (λ v. RtcpOpensTo cipher AeadAes256Gcm keys c.args.buf.now v.items) c.open_rtcp-in-Gcm256.result (λ v. opens_256 cipher keys c.args.buf.now v.items) c.open_rtcp-in-Gcm256.ensures.some)

pub returns-in-Gcm256-clause-none : goal.returns-in-Gcm256-clause-none
returns-in-Gcm256-clause-none g c =
    let cipher = g.C.SrtpCipher.meaning in
    let keys = gcm_session c.in-Gcm256.direction in
    rw c.in-Gcm256.is (none_along ((p : List ℕ) → GcmRtcpOpens cipher keys.rtcp_key keys.rtcp_salt c.args.buf.now p → ⊥) ((p : List ℕ) → RtcpOpensTo cipher AeadAes256Gcm keys c.args.buf.now p → ⊥) c.open_rtcp-in-Gcm256.result (λ h p o. h p (of_256 cipher keys c.args.buf.now p o)) c.open_rtcp-in-Gcm256.ensures.none)
