use Rattle.std.proofs.Common.{◌==◌, sym, ap, ◌∙◌, position}
use Rattle.report_core.specs.declared.moments.ReceiverMoment.{ReceiverMoment as Moment}
use Rattle.report_core.proofs.moments.ReceiverMoments.take.Goals as goal

pub returns-in-None-clause-waits : goal.returns-in-None-clause-waits
returns-in-None-clause-waits c waits =
    absurd (waits (ap (position (λ (m : Moment). m.ssrc == c.args.ssrc)) (sym c.self.view_is) ∙ sym c.place_of.ensures ∙ c.in-None.is))
