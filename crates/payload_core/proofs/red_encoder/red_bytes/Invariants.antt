use Rattle.std.proofs.Common.{◌≡◌, ◌++◌, take}
use Rattle.std.specs.List.{flat_map}
use Rattle.payload_core.specs.Red.{blocks_of}
use Rattle.payload_core.specs.RedWriting.{header_bytes}
use Rattle.payload_core.proofs.red_encoder.red_bytes.Given as goal

abbrev pub invariant-loop-block : goal.invariant-loop-block
invariant-loop-block l = l.out.items ≡ flat_map header_bytes (blocks_of (take l.block-index l.blocks))

abbrev pub invariant-loop-block-2 : goal.invariant-loop-block-2
invariant-loop-block-2 l = l.out.items ≡ flat_map header_bytes (blocks_of l.blocks) ++ flat_map (λ b. b.payload) (blocks_of (take l.block-index l.blocks))
