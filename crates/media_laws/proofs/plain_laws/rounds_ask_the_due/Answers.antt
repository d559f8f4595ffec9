use Rattle.media_laws.proofs.Asks.{rounds_ask_the_due}
use Rattle.media_laws.proofs.plain_laws.rounds_ask_the_due.Goals as goal

pub returns : goal.returns
returns c = rounds_ask_the_due
