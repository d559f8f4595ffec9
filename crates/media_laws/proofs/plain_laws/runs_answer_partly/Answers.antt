use Rattle.media_laws.proofs.Whole.{runs_answer_partly}
use Rattle.media_laws.proofs.plain_laws.runs_answer_partly.Goals as goal

pub returns : goal.returns
returns c = runs_answer_partly
