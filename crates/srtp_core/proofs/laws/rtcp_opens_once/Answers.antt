use Rattle.srtp_core.proofs.RtcpSealing.{opens_once}
use Rattle.srtp_core.proofs.laws.rtcp_opens_once.Goals as goal

pub returns : goal.returns
returns g c = opens_once g.C.SrtpCipher.meaning c.laws.ensures.longer c.laws.ensures.apart
