use Rattle.std.proofs.Common.{◌≡◌, ◌-◌, ◌≤◌}
use Rattle.std.specs.List.{list_any}
use Rattle.repair_core.specs.Rounds.{numbers_up}
use Rattle.mask_register.specs.MaskRegister.{is_open}
use Rattle.mask_register.proofs.register.MaskRegister.has_open.Given as goal

abbrev pub invariant-loop-number : goal.invariant-loop-number
invariant-loop-number l = record {
  from : l.low ≤ l.number;
  rest : list_any (is_open l.window l.self.asks) (numbers_up (l.high - l.number) l.number) ≡ list_any (is_open l.window l.self.asks) (numbers_up (l.high - l.low) l.low);
}
