use Rattle.twcc_core.proofs.Nothing.{none_exactly}
use Rattle.twcc_core.proofs.laws.reports_are_none.Goals as goal

pub returns : goal.returns
returns c = none_exactly
