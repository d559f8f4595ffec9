use Rattle.srtp_core.proofs.Longer.{seal_is_longer}
use Rattle.srtp_core.proofs.laws.rtp_seal_is_longer.Goals as goal

pub returns : goal.returns
returns g c = seal_is_longer g.C.SrtpCipher.meaning c.laws.ensures.longer
