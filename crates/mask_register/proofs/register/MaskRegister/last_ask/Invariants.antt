use Rattle.std.proofs.Common.{◌≡◌, ◌-◌, ◌≤◌, None}
use Rattle.repair_core.specs.Rounds.{numbers_up}
use Rattle.mask_register.specs.MaskRegister.{latest_of}
use Rattle.mask_register.proofs.register.MaskRegister.last_ask.Given as goal

abbrev pub invariant-loop-number : goal.invariant-loop-number
invariant-loop-number l = record {
  from : l.low ≤ l.number;
  rest : latest_of l.window l.self.asks l.latest (numbers_up (l.high - l.number) l.number) ≡ latest_of l.window l.self.asks None (numbers_up (l.high - l.low) l.low);
}
