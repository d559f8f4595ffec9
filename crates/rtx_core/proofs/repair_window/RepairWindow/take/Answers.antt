use Rattle.std.proofs.Common.{subst, sym, ◌∙◌}
use Rattle.rtx_core.specs.Repairs.{Remembers}
use Rattle.rtx_core.proofs.Repaired.{taken_is}
use Rattle.rtx_core.proofs.repair_window.RepairWindow.take.Goals as goal

pub returns-in-Some : goal.returns-in-Some
returns-in-Some c past h =
    taken_is c.in-Some.window c.update.new.self c.args.seen c.args.number past (subst (λ o. Remembers o past) (sym c.self.view_is ∙ c.in-Some.is) h) c.requires.number c.update.ensures.taken
