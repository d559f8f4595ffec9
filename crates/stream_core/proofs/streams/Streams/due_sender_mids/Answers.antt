use Rattle.std.proofs.Common.{ℕ, List, [], ◌∷◌, ◌+◌, ◌++◌, vec_items, drop, sym, ap, ◌∙◌}
use Rattle.stream_core.specs.Reporting.{due_tx_mids}
use Rattle.stream_core.specs.StreamsRecord.{StreamsView}
use Rattle.stream_core.proofs.RepairSteps.{on_err}
use Rattle.stream_core.proofs.TxSteps.{due_skipped, due_taken, due_some}
use Rattle.stream_core.proofs.streams.Streams.due_sender_mids.Goals.{then-needs_report+in_ok-push, else-needs_report}
use Rattle.stream_core.proofs.streams.Streams.due_sender_mids.Goals as goal

pub returns-in_err-push-clause-cause : goal.returns-in_err-push-clause-cause
returns-in_err-push-clause-cause g c =
    on_err c.from_residual.result _
    (λ none. due_some c.args.intervals.now c.args.now c.self.inside.tx c.loop-place.place c.at-stream.result.now c.loop-place.mids.items c.at-stream.ensures c.loop-place.invariant
    (sym c.needs_report.ensures ∙ c.if-needs_report.true)
    (ap (λ (v : StreamsView g.row.W.Denot g.row.S.Denot). due_tx_mids c.args.intervals.now c.args.now v.tx) c.self.view_is ∙ none))

pub loop-place-preserved : goal.loop-place-preserved
loop-place-preserved g c =
    let tx = c.self.inside.tx in
    let place = c.loop-place.place in
    let front = c.loop-place.mids.items in
    let rest : List (List ℕ) = due_tx_mids c.args.intervals.now c.args.now (drop (place + 1) tx) in
    elim c.if-needs_report.branch [
      | then-needs_report+in_ok-push w ↦
          ap (λ (l : List (List ℕ)). l ++ rest) (ap vec_items w.mids-is ∙ w.in_ok-push.ensures.items ∙ ap (λ (m : List ℕ). front ++ m ∷ []) w.mid.ensures)
          ∙ due_taken c.args.intervals.now c.args.now tx place c.at-stream.result.now front c.at-stream.ensures c.loop-place.invariant (sym c.needs_report.ensures ∙ w.if-needs_report.true)
      | else-needs_report w ↦
          ap (λ (l : List (List ℕ)). l ++ rest) (ap vec_items w.mids-is)
          ∙ due_skipped c.args.intervals.now c.args.now tx place c.at-stream.result.now front c.at-stream.ensures c.loop-place.invariant (sym c.needs_report.ensures ∙ w.if-needs_report.false)
    ]
