use Rattle.std.proofs.Common.{◌≡◌, ◌≤◌, ◌*◌, take}
use Rattle.std.specs.List.{fold}
use Rattle.report_core.specs.Loss.{begun_at, and_weighed}
use Rattle.report_core.proofs.loss.weigh.Given as goal

abbrev pub invariant-loop-report : goal.invariant-loop-report
invariant-loop-report l =
    (l.weighed ≡ fold and_weighed (begun_at l.number) (take l.report-index l.reports)) × (l.weighed.lost ≤ 255 * l.weighed.covered)
