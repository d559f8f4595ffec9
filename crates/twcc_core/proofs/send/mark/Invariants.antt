use Rattle.std.proofs.Common.{◌≡◌, length}
use Rattle.twcc_core.specs.Sending.{after_told}
use Rattle.twcc_core.proofs.Marking.{IsDone}
use Rattle.twcc_core.proofs.send.mark.Given as goal

abbrev pub invariant-loop-i : goal.invariant-loop-i
invariant-loop-i l = record {
  as_long : length l.records.items ≡ length l.initial.records.items;
  done : IsDone (after_told l.first l.moments l.now) l.i l.initial.records.items l.records.items;
}
