use Rattle.media_laws.proofs.RunExactly.{runs_yield_exactly}
use Rattle.media_laws.proofs.plain_laws.runs_yield_exactly.Goals as goal

pub returns : goal.returns
returns c = runs_yield_exactly
