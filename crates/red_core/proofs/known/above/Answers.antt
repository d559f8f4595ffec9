use Rattle.red_core.proofs.Sides.{above_is_later}
use Rattle.red_core.proofs.known.above.Goals as goal

pub returns-clause-later : goal.returns-clause-later
returns-clause-later c = above_is_later c.args.time c.args.known.now c.lowest_after.result c.lowest_after.ensures
