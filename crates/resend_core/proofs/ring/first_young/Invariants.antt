use Rattle.std.proofs.Common.{◌≡◌, None, drop}
use Rattle.resend_core.specs.Ring.{least_young}
use Rattle.resend_core.proofs.ring.first_young.Given as goal

abbrev pub invariant-loop-slot : goal.invariant-loop-slot
invariant-loop-slot g l = least_young l.now l.age l.first (drop l.slot-index l.ring) ≡ least_young l.now l.age None l.ring
