use Rattle.srtp_core.proofs.Sealing.{seals_apart}
use Rattle.srtp_core.proofs.laws.rtp_seals_apart.Goals as goal

pub returns : goal.returns
returns g c = seals_apart g.C.SrtpCipher.meaning c.laws.ensures.apart
