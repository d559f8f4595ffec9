use Rattle.std.proofs.Common.{◌≡◌, ◌≤◌, ◌++◌, [], ◌∷◌, length, take, sym, ap, ◌∙◌, arith}
use Rattle.std.specs.Prelude.{ℕ, List}
use Rattle.stream_core.specs.Reporting.{due_mids, is_report_due}
use Rattle.stream_core.specs.RxRecord.{RxState, StandsFor}
use Rattle.stream_core.proofs.Alongside.{value_along, length_along}
use Rattle.stream_core.proofs.RepairSteps.{on_err}
use Rattle.stream_core.proofs.RxSteps.{mids_more, mids_same, mids_all, mids_some}
use Rattle.stream_core.proofs.streams.feedback.due_mids.Goals as goal
use Rattle.stream_core.proofs.streams.feedback.due_mids.Goals.{then-needs_report+in_ok-push, else-needs_report}

pub returns-in_err-push-clause-cause : goal.returns-in_err-push-clause-cause
returns-in_err-push-clause-cause g c = on_err c.from_residual.result _ (λ rs h.
    let y = value_along (StandsFor g.W.GapWindow.remembers) c.args.streams.now rs c.loop-place.place c.at-stream.result.now h c.at-stream.ensures in
    mids_some c.args.intervals.now c.args.now rs c.loop-place.place y.0 y.1
    (sym (c.needs_report.ensures ∙ ap (λ (s : RxState). is_report_due c.args.intervals.now c.args.now s) y.2.state) ∙ c.if-needs_report.true))

pub loop-place-preserved : goal.loop-place-preserved
loop-place-preserved g c = λ rs h.
    let y = value_along (StandsFor g.W.GapWindow.remembers) c.args.streams.now rs c.loop-place.place c.at-stream.result.now h c.at-stream.ensures in
    let due : c.needs_report.result ≡ is_report_due c.args.intervals.now c.args.now y.0.state =
    c.needs_report.ensures ∙ ap (λ (s : RxState). is_report_due c.args.intervals.now c.args.now s) y.2.state in
    let before = c.loop-place.invariant rs h in
    elim c.if-needs_report.branch [
      | then-needs_report+in_ok-push w ↦
          ap (λ v. v.items) w.mids-is
          ∙ w.in_ok-push.ensures.items
          ∙ ap (λ (l : List (List ℕ)). l ++ w.mid.result ∷ []) before
          ∙ ap (λ (m : List ℕ). due_mids c.args.intervals.now c.args.now (take c.loop-place.place rs) ++ m ∷ []) (w.mid.ensures ∙ ap (λ (s : RxState). s.mid) y.2.state)
          ∙ sym (mids_more c.args.intervals.now c.args.now rs c.loop-place.place y.0 y.1 (sym due ∙ w.if-needs_report.true))
      | else-needs_report w ↦
          ap (λ v. v.items) w.mids-is ∙ before ∙ sym (mids_same c.args.intervals.now c.args.now rs c.loop-place.place y.0 y.1 (sym due ∙ w.if-needs_report.false))
    ]

pub returns-clause-mids : goal.returns-clause-mids
returns-clause-mids g c = λ rs h.
    let same = length_along (StandsFor g.W.GapWindow.remembers) c.args.streams.now rs h in
    let ended = c.loop-place-test.false in
    let count = c.len-place-end.ensures in
    let long : length rs ≤ c.loop-place.place = omega arith in
    c.loop-place.invariant rs h ∙ mids_all c.args.intervals.now c.args.now rs c.loop-place.place long
