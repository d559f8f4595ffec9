use Rattle.std.proofs.Common.{sym, ◌∙◌}
use Rattle.std.proofs.lemmas.Result.{IfOk-weaker}
use Rattle.rtx_core.specs.Resends.{begun_anew}
use Rattle.stream_core.specs.Repairing.{RepairsRecord, RepairsStandFor}
use Rattle.stream_core.proofs.ResetSteps.{if_ok_each, anew_there, anew_none}
use Rattle.stream_core.proofs.streams.resetting.repairs_from.Goals as goal

pub returns-in-Some : goal.returns-in-Some
returns-in-Some g c =
    IfOk-weaker c.anew.result _ _
    (λ q step. anew_there g.S.ResendStore.stands_for c.args.repairs.now c.args.ssrc c.args.first q c.in-Some.at c.at.result.now (sym c.place.ensures.place ∙ c.in-Some.is) c.at.ensures step)
    (if_ok_each c.anew.result (λ (r : RepairsRecord). RepairsStandFor g.S.ResendStore.stands_for c.at.result.now r) (λ r q. RepairsStandFor g.S.ResendStore.stands_for q (begun_anew c.args.first r)) c.anew.ensures)

pub returns-in-None : goal.returns-in-None
returns-in-None g c =
    IfOk-weaker c.new.result _ _
    (λ q stands. anew_none g.S.ResendStore.stands_for c.args.repairs.now c.args.ssrc c.args.first q (sym c.place.ensures.place ∙ c.in-None.is) stands)
    c.new.ensures
