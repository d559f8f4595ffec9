use Rattle.media_laws.proofs.Indices.{runs_repeat_no_index}
use Rattle.media_laws.proofs.plain_laws.runs_repeat_no_index.Goals as goal

pub returns : goal.returns
returns c = runs_repeat_no_index
