use Rattle.std.proofs.Common.{sym, ap, ◌∙◌, Some}
use Rattle.std.specs.Map.{values_of}
use Rattle.std.specs.Prelude.{slice_get}
use Rattle.std.specs.Option.{option_map}
use Rattle.stream_core.specs.Repairing.{has_asked, state_in}
use Rattle.stream_core.specs.StreamsRecord.{StreamsView, is_asked}
use Rattle.stream_core.proofs.RepairSteps.{asked_there}
use Rattle.stream_core.proofs.PollSteps.{not_both}
use Rattle.stream_core.proofs.streams.Streams.is_asked.Goals as goal

pub returns-in-Some : goal.returns-in-Some
returns-in-Some g c =
    let f = c.in-Some.ensures in
    ap Some (asked_there c.self.inside.repairs c.at.result.now _ _ c.at-in-Some.result.now c.is_empty.result f.found.0 f.found.1 c.at-in-Some.ensures c.is_empty.ensures)
    ∙ ap (option_map (is_asked c.self.inside.repairs)) (sym c.at.ensures)
    ∙ ap (λ (v : StreamsView g.row.W.Denot g.row.S.Denot). option_map (is_asked v.repairs) (slice_get (values_of v.tx) c.args.place)) c.self.view_is

pub returns-in-None : goal.returns-in-None
returns-in-None g c =
    ap (λ o. Some (has_asked (state_in o))) (sym (not_both (values_of c.self.inside.repairs) c.at.result.now.rtx _ c.in-None.ensures.none))
    ∙ ap (option_map (is_asked c.self.inside.repairs)) (sym c.at.ensures)
    ∙ ap (λ (v : StreamsView g.row.W.Denot g.row.S.Denot). option_map (is_asked v.repairs) (slice_get (values_of v.tx) c.args.place)) c.self.view_is
