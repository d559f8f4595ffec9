use Rattle.twcc_core.proofs.ReadBack.{twcc_whole}
use Rattle.twcc_core.proofs.laws.feedback_is_whole.Goals as goal

pub returns : goal.returns
returns c = twcc_whole
