use Rattle.std.proofs.Common.{◌≡◌, take}
use Rattle.std.specs.List.{flat_map}
use Rattle.media_model.specs.Setup.{claimed_in}
use Rattle.media_model.proofs.setup.Setup.claimed_types.Given as goal

abbrev pub invariant-loop-payload_type : goal.invariant-loop-payload_type
invariant-loop-payload_type l = l.claimed.items ≡ flat_map claimed_in (take l.payload_type-index l.payload_type-items)
