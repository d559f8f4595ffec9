use Rattle.std.proofs.Common.{Some, ℕ, drop, ap, ◌+◌, ◌∙◌}
use Rattle.media_units.specs.Soonest.{earlier}
use Rattle.stream_core.specs.Reporting.{tx_report_before}
use Rattle.stream_core.proofs.TxSteps.{sender_more}
use Rattle.stream_core.proofs.streams.Streams.sender_reports_at.Goals as goal

pub loop-place-preserved : goal.loop-place-preserved
loop-place-preserved g c =
    ap (λ o. tx_report_before c.args.intervals.now o (drop (c.loop-place.place + 1) c.self.inside.tx))
    (c.earlier-first.ensures ∙ ap (λ (t : ℕ). earlier c.loop-place.first (Some t)) c.sender_report_at-at.ensures)
    ∙ sender_more c.args.intervals.now c.loop-place.first c.self.inside.tx c.loop-place.place c.at.result.now c.at.ensures
    ∙ c.loop-place.invariant
