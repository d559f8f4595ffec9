use Rattle.std.proofs.Common.{◌≡◌, take}
use Rattle.session_core.specs.Types.{types_of}
use Rattle.session_core.proofs.types.payload_types.Given as goal

abbrev pub invariant-loop-codec : goal.invariant-loop-codec
invariant-loop-codec l = l.types ≡ types_of (take l.codec-index l.codec-items)
