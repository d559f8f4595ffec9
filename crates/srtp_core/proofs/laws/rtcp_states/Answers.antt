use Rattle.srtp_core.proofs.RtcpSealing.{states}
use Rattle.srtp_core.proofs.laws.rtcp_states.Goals as goal

pub returns : goal.returns
returns g c = states g.C.SrtpCipher.meaning
