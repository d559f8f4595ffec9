use Rattle.stream_core.specs.Pauses.{on_record}
use Rattle.stream_core.specs.Reporting.{with_told}
use Rattle.stream_core.proofs.TickSteps.{told_step, reported_step}
use Rattle.stream_core.proofs.streams.feedback.front_said.Goals as goal

pub returns-then-reports : goal.returns-then-reports
returns-then-reports g c = λ r h.
    let m = g.W.GapWindow.remembers in
    let told = told_step m c.args.tick.now c.args.stream.now c.told_requests.new.self r c.told_requests.ensures h in
    reported_step m c.args.tick.now c.reported.new.self r c.args.reports c.if-reports.true (c.reported.ensures.after (on_record with_told r) told)
