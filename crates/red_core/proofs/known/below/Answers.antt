use Rattle.red_core.proofs.Sides.{below_is_earlier}
use Rattle.red_core.proofs.known.below.Goals as goal

pub returns-clause-earlier : goal.returns-clause-earlier
returns-clause-earlier c = below_is_earlier c.args.time c.args.known.now c.highest_before.result c.highest_before.ensures
