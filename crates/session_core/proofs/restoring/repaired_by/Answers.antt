use Rattle.std.proofs.Common.{sym, ◌∙◌}
use Rattle.session_core.proofs.RepairSteps.{repairs_probe, repairs_none, repairs_under}
use Rattle.session_core.proofs.restoring.repaired_by.Goals as goal

pub returns-then-is_probe-clause-original : goal.returns-then-is_probe-clause-original
returns-then-is_probe-clause-original g c = λ r h.
    sym (repairs_probe c.args.types.now r.rx r.known.originals c.args.header.now (sym c.is_probe.ensures ∙ c.if-is_probe.true))

pub returns-in_default-clause-original : goal.returns-in_default-clause-original
returns-in_default-clause-original g c = λ r h.
    c.original_under.ensures.original r h
    ∙ sym (repairs_under c.args.types.now r.rx r.known.originals c.args.header.now (sym c.is_probe.ensures ∙ c.if-is_probe.false) (sym (c.rx_place.ensures.stands r h) ∙ c.in_default.is))

pub returns-in-None-clause-original : goal.returns-in-None-clause-original
returns-in-None-clause-original g c = λ r h.
    sym (repairs_none c.args.types.now r.rx r.known.originals c.args.header.now c.in-Some.place (sym c.is_probe.ensures ∙ c.if-is_probe.false)
    (sym (c.rx_place.ensures.stands r h) ∙ c.in-Some.is) (sym c.primary.ensures ∙ c.in-None.is))
