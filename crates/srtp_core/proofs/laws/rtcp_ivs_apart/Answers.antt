use Rattle.srtp_core.proofs.Ivs.{rtcp_ivs_apart_lem}
use Rattle.srtp_core.proofs.laws.rtcp_ivs_apart.Goals as goal

pub returns : goal.returns
returns c = rtcp_ivs_apart_lem
