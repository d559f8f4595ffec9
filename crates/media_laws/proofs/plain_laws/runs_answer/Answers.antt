use Rattle.media_laws.proofs.Whole.{runs_answer}
use Rattle.media_laws.proofs.plain_laws.runs_answer.Goals as goal

pub returns : goal.returns
returns c = runs_answer
