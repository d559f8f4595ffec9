use Rattle.twcc_core.proofs.ComingBack.{come_back}
use Rattle.twcc_core.proofs.laws.reports_come_back.Goals as goal

pub returns : goal.returns
returns c = come_back c.widens_to_itself.ensures
