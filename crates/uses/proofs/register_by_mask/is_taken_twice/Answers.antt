use Rattle.std.proofs.Common.{◌∙◌, [], ◌∷◌}
use Rattle.std.specs.Prelude.{None}
use Rattle.repair_core.specs.Rounds.{came, started_at}
use Rattle.uses.proofs.register_by_mask.is_taken_twice.Goals as goal

-- the second time is after both numbers came
pub returns : goal.returns
returns c =
    let first = c.update.ensures.remembers (started_at None) c.in_ok-register.ensures in
    let second = c.update-2.ensures.remembers (came (started_at None) c.args.number) first in
    c.update-3.ensures.fresh (came (came (started_at None) c.args.number) c.args.other) second
    ∙ c.taken_is_not_fresh.ensures [] (c.args.other ∷ []) c.args.number
