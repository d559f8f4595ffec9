use Rattle.twcc_core.proofs.Telling.{reports_tell}
use Rattle.twcc_core.proofs.laws.reports_tell_arrivals.Goals as goal

pub returns : goal.returns
returns c = reports_tell
