use Rattle.srtp_core.proofs.Sealing.{opens_sealed}
use Rattle.srtp_core.proofs.laws.rtp_opens_sealed.Goals as goal

pub returns : goal.returns
returns g c = opens_sealed g.C.SrtpCipher.meaning
