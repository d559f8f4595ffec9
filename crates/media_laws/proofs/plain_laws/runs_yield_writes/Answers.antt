use Rattle.media_laws.proofs.Whole.{runs_yield_writes}
use Rattle.media_laws.proofs.plain_laws.runs_yield_writes.Goals as goal

pub returns : goal.returns
returns c = runs_yield_writes
