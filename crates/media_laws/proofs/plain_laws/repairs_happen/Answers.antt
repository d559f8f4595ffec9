use Rattle.media_laws.proofs.RepairedRun.{repairs_happen}
use Rattle.media_laws.proofs.plain_laws.repairs_happen.Goals as goal

pub returns : goal.returns
returns c = repairs_happen
