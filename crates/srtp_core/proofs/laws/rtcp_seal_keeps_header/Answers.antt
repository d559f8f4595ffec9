use Rattle.srtp_core.proofs.RtcpShape.{rtcp_seal_keeps_header}
use Rattle.srtp_core.proofs.laws.rtcp_seal_keeps_header.Goals as goal

pub returns : goal.returns
returns g c = rtcp_seal_keeps_header g.C.SrtpCipher.meaning c.laws.ensures.longer
