use Rattle.std.proofs.Common.{◌≡◌, ◌++◌, map, take, drop}
use Rattle.resend_core.specs.Ring.{kept_from}
use Rattle.resend_core.proofs.ring.keep_from.Given as goal

abbrev pub invariant-loop-slot : goal.invariant-loop-slot
invariant-loop-slot g l = l.ring ≡ map (kept_from l.first) (take l.slot-index l.initial.ring) ++ drop l.slot-index l.initial.ring
