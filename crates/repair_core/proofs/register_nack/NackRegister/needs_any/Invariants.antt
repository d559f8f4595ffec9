use Rattle.std.proofs.Common.{◌≡◌, ◌-◌}
use Rattle.std.specs.List.{list_any}
use Rattle.repair_core.specs.Rounds.{numbers_up}
use Rattle.repair_core.specs.Slots.{known, slot_needs}
use Rattle.repair_core.proofs.register_nack.NackRegister.needs_any.Given as goal

abbrev pub invariant-loop-number : goal.invariant-loop-number
invariant-loop-number l =
    list_any (λ n. slot_needs (known l.self.slots n)) (numbers_up (l.high - l.number) l.number)
    ≡ list_any (λ n. slot_needs (known l.self.slots n)) (numbers_up (l.high - l.low) l.low)
