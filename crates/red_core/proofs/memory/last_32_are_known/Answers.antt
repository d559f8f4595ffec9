use Rattle.red_core.proofs.Lasting.{last_known}
use Rattle.red_core.proofs.memory.last_32_are_known.Goals as goal

pub returns : goal.returns
returns c = last_known
