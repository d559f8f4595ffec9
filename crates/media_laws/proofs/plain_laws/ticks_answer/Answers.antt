use Rattle.media_laws.proofs.TxPlays.{ticks_answer}
use Rattle.media_laws.proofs.plain_laws.ticks_answer.Goals as goal

pub returns : goal.returns
returns c = ticks_answer
