use Rattle.std.proofs.Common.{◌≡◌, ◌<◌, length, drop}
use Rattle.resend_core.specs.Ring.{settled_all}
use Rattle.resend_core.proofs.ring.move_all.Given as goal

abbrev pub invariant-loop-slot : goal.invariant-loop-slot
invariant-loop-slot g l = record {
  some : 0 < length l.ring;
  moved : settled_all l.ring (drop l.slot-index l.old) ≡ settled_all l.fn.ring l.fn.old;
}
