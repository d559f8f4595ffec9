use Rattle.media_laws.proofs.Whole.{runs_ask_the_due}
use Rattle.media_laws.proofs.plain_laws.runs_ask_the_due.Goals as goal

pub returns : goal.returns
returns c = runs_ask_the_due
