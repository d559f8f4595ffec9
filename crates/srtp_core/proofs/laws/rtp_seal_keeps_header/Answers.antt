use Rattle.srtp_core.proofs.Shape.{seal_keeps_header}
use Rattle.srtp_core.proofs.laws.rtp_seal_keeps_header.Goals as goal

pub returns : goal.returns
returns g c = seal_keeps_header g.C.SrtpCipher.meaning c.laws.ensures.longer
