use Rattle.std.proofs.Common.{◌≡◌, ◌++◌, map, take, drop}
use Rattle.rtp_wire.specs.Extensions.{cleared}
use Rattle.rtp_wire.proofs.extension.clear.Given as goal

abbrev pub invariant-loop-i : goal.invariant-loop-i
invariant-loop-i l = l.places ≡ map (cleared l.extension) (take l.i l.fn.places) ++ drop l.i l.fn.places
