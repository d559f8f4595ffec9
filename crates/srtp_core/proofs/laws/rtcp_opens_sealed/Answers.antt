use Rattle.srtp_core.proofs.RtcpSealing.{opens_sealed}
use Rattle.srtp_core.proofs.laws.rtcp_opens_sealed.Goals as goal

pub returns : goal.returns
returns g c = opens_sealed g.C.SrtpCipher.meaning
