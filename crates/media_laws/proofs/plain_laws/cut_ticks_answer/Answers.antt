use Rattle.media_laws.proofs.TxPlays.{cut_ticks_answer}
use Rattle.media_laws.proofs.plain_laws.cut_ticks_answer.Goals as goal

pub returns : goal.returns
returns c = cut_ticks_answer
