use Rattle.std.proofs.Common.{◌≡◌, None, drop}
use Rattle.resend_core.specs.Ring.{raised_all}
use Rattle.resend_core.proofs.ring.last_below.Given as goal

abbrev pub invariant-loop-slot : goal.invariant-loop-slot
invariant-loop-slot g l = raised_all l.last (drop l.slot-index l.ring) l.first ≡ raised_all None l.ring l.first
