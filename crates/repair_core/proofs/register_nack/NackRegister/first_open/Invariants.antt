use Rattle.std.proofs.Common.{◌≡◌, ℕ, ◌<◌, ◌≤◌, false}
use Rattle.repair_core.specs.Slots.{known, slot_needs}
use Rattle.repair_core.proofs.register_nack.NackRegister.first_open.Given as goal

abbrev pub invariant-loop-number : goal.invariant-loop-number
invariant-loop-number l = (k : ℕ) → l.low ≤ k → k < l.number → slot_needs (known l.self.slots k) ≡ false
