use Rattle.srtp_core.proofs.Sealing.{opens_once}
use Rattle.srtp_core.proofs.laws.rtp_opens_once.Goals as goal

pub returns : goal.returns
returns g c = opens_once g.C.SrtpCipher.meaning c.laws.ensures.apart
