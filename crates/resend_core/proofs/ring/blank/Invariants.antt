use Rattle.std.proofs.Common.{◌≡◌, ◌≤◌, None, replicate}
use Rattle.std.specs.Vec.{vec_capacity}
use Rattle.resend_core.proofs.ring.blank.Given as goal

abbrev pub invariant-loop-count : goal.invariant-loop-count
invariant-loop-count g l = record {
  items : l.ring.items ≡ replicate l._count None;
  room : l.size ≤ vec_capacity l.ring;
}
