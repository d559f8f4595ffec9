use Rattle.media_laws.proofs.RunYields.{streams_yield_writes}
use Rattle.media_laws.proofs.plain_laws.streams_yield_writes.Goals as goal

pub returns : goal.returns
returns c = streams_yield_writes
