use Rattle.srtp_core.proofs.Openings.{some_opens, none_opens}
use Rattle.srtp_core.specs.Views.{cm_session, gcm_session}
use Rattle.srtp_core.specs.declared.profile.SrtpProfile.TheVariants.{Aes128CmSha1_80, AeadAes128Gcm, AeadAes256Gcm}
use Rattle.srtp_core.proofs.context.open_front.Goals as goal

pub returns-in-Cm-clause-opens : goal.returns-in-Cm-clause-opens
returns-in-Cm-clause-opens g c =
    rw c.in-Cm.is (some_opens g.C.SrtpCipher.meaning Aes128CmSha1_80 (cm_session g.C.SrtpCipher.bytes_128 c.in-Cm.direction) c.args.ssrc c.args.index c.args.header_len c.args.buf.now c.open_rtp.new.output c.open_rtp.result c.requires.within c.requires.header c.open_rtp.ensures.opens)

pub returns-in-Cm-clause-none : goal.returns-in-Cm-clause-none
returns-in-Cm-clause-none g c =
    rw c.in-Cm.is (none_opens g.C.SrtpCipher.meaning Aes128CmSha1_80 (cm_session g.C.SrtpCipher.bytes_128 c.in-Cm.direction) c.args.ssrc c.args.index c.args.header_len c.args.buf.now c.open_rtp.result c.open_rtp.ensures.none)

pub returns-in-Gcm128-clause-opens : goal.returns-in-Gcm128-clause-opens
returns-in-Gcm128-clause-opens g c =
    rw c.in-Gcm128.is (some_opens g.C.SrtpCipher.meaning AeadAes128Gcm (gcm_session c.in-Gcm128.direction) c.args.ssrc c.args.index c.args.header_len c.args.buf.now c.open_rtp-in-Gcm128.new.output c.open_rtp-in-Gcm128.result c.requires.within c.requires.header c.open_rtp-in-Gcm128.ensures.opens)

pub returns-in-Gcm128-clause-none : goal.returns-in-Gcm128-clause-none
returns-in-Gcm128-clause-none g c =
    rw c.in-Gcm128.is (none_opens g.C.SrtpCipher.meaning AeadAes128Gcm (gcm_session c.in-Gcm128.direction) c.args.ssrc c.args.index c.args.header_len c.args.buf.now c.open_rtp-in-Gcm128.result c.open_rtp-in-Gcm128.ensures.none)

pub returns-in-Gcm256-clause-opens : goal.returns-in-Gcm256-clause-opens
returns-in-Gcm256-clause-opens g c =
    rw c.in-Gcm256.is (some_opens g.C.SrtpCipher.meaning AeadAes256Gcm (gcm_session c.in-Gcm256.direction) c.args.ssrc c.args.index c.args.header_len c.args.buf.now c.open_rtp-in-Gcm256.new.output c.open_rtp-in-Gcm256.result c.requires.within c.requires.header c.open_rtp-in-Gcm256.ensures.opens)

pub returns-in-Gcm256-clause-none : goal.returns-in-Gcm256-clause-none
returns-in-Gcm256-clause-none g c =
    rw c.in-Gcm256.is (none_opens g.C.SrtpCipher.meaning AeadAes256Gcm (gcm_session c.in-Gcm256.direction) c.args.ssrc c.args.index c.args.header_len c.args.buf.now c.open_rtp-in-Gcm256.result c.open_rtp-in-Gcm256.ensures.none)
