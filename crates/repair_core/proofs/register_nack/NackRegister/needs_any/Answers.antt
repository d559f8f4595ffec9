use Rattle.std.proofs.Common.{◌∙◌, sym}
use Rattle.repair_core.proofs.GapLaws.{any_next}
use Rattle.repair_core.proofs.register_nack.NackRegister.needs_any.Goals as goal

pub loop-number-preserved : goal.loop-number-preserved
loop-number-preserved c =
    sym (any_next c.args.self.now.slots c.min-high.result c.loop-number.number c.loop-number-test.true (sym c.needs.ensures ∙ c.if-needs.false))
    ∙ c.loop-number.invariant
