use Rattle.std.proofs.Common.{◌≡◌, take}
use Rattle.std.specs.List.{flat_map}
use Rattle.media_model.specs.Setup.{written_in}
use Rattle.media_model.proofs.setup.Setup.types.Given as goal

abbrev pub invariant-loop-payload_type : goal.invariant-loop-payload_type
invariant-loop-payload_type l = l.types.items ≡ flat_map written_in (take l.payload_type-index l.payload_type-items)
