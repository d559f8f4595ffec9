use Rattle.std.proofs.Common.{rules, arith, ◌-◌}
use Rattle.std.proofs.lemmas.Grind.{common_steps}
use Rattle.std.specs.Vec.{vec_len}
use Rattle.twcc_core.proofs.Runs.{set_last}
use Rattle.twcc_core.proofs.status_list.add_row.Goals as goal

pub returns-in-Some-joined-clause-ok : goal.returns-in-Some-joined-clause-ok
returns-in-Some-joined-clause-ok c =
    set_last c.args.runs.now.items (vec_len c.args.runs.now - 1) c.in-Some.last.now c.in-Some-joined.longer c.args.row (grind (arith, common_steps)) (search rules) c.in-Some-joined.ensures
