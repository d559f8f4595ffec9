use Rattle.srtp_core.proofs.Ivs.{rtp_ivs_apart_lem}
use Rattle.srtp_core.proofs.laws.rtp_ivs_apart.Goals as goal

pub returns : goal.returns
returns c = rtp_ivs_apart_lem
