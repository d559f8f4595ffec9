use Rattle.std.proofs.Common.{◌≡◌, ◌+◌, ◌-◌, ◌≤◌, length}
use Rattle.std.specs.Vec.{vec_capacity}
use Rattle.payload_core.specs.Red.{blocks_of, blocks_from}
use Rattle.payload_core.proofs.RedBlocks.{IsRead}
use Rattle.payload_core.proofs.red.RedDecoder.blocks.Given as goal

abbrev pub invariant-loop : goal.invariant-loop
invariant-loop l =
    IsRead (blocks_of l.blocks.items) (l.count - l.counter) l.head l.rest (blocks_from l.count l.fn.heads l.fn.payloads)
    × (length l.blocks.items ≡ l.counter)
    × (l.count + 1 ≤ vec_capacity l.blocks)
