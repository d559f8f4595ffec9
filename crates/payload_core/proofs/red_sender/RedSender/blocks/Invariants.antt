use Rattle.std.proofs.Common.{◌+◌, ◌-◌, ◌≤◌, ◌∷◌, length}
use Rattle.std.specs.Vec.{vec_capacity}
use Rattle.payload_core.specs.Sending.{first_block, chosen}
use Rattle.payload_core.proofs.Choosing.{IsChosen}
use Rattle.payload_core.proofs.red_sender.RedSender.blocks.Given as goal

abbrev pub invariant-loop-i : goal.invariant-loop-i
invariant-loop-i l =
    IsChosen l.blocks.items l.self.pt l.self.distances l.time l.room l.i l.self.sent
    (first_block l.self.pt l.frame ∷ chosen l.self.pt l.self.distances l.time (l.limit - 1 - length l.frame) 1 l.self.sent)
    × (length l.blocks.items ≤ l.i + 1)
    × (l.count + 1 ≤ vec_capacity l.blocks)
