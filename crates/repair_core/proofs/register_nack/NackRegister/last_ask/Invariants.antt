use Rattle.std.proofs.Common.{◌≡◌, ◌-◌, None}
use Rattle.repair_core.specs.Rounds.{numbers_up}
use Rattle.repair_core.specs.Slots.{latest_in}
use Rattle.repair_core.proofs.register_nack.NackRegister.last_ask.Given as goal

abbrev pub invariant-loop-number : goal.invariant-loop-number
invariant-loop-number l = latest_in l.self.slots l.latest (numbers_up (l.high - l.number) l.number) ≡ latest_in l.self.slots None (numbers_up (l.high - l.low) l.low)
