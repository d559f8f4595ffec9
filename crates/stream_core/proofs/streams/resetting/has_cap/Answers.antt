use Rattle.std.proofs.Common.{refl, sym, ◌∙◌}
use Rattle.stream_core.proofs.ResetSteps.{cap_there, cap_none}
use Rattle.stream_core.proofs.streams.resetting.has_cap.Goals as goal

pub returns-in-Some : goal.returns-in-Some
returns-in-Some g c =
    cap_there g.S.ResendStore.stands_for c.args.repairs.now c.args.ssrc c.in-Some.at c.at.result.now c.has_cap.result (sym c.place.ensures.place ∙ c.in-Some.is) c.at.ensures c.has_cap.ensures

pub returns-in-None : goal.returns-in-None
returns-in-None g c = cap_none g.S.ResendStore.stands_for c.args.repairs.now c.args.ssrc _ (sym c.place.ensures.place ∙ c.in-None.is) refl
