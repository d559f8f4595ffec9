use Rattle.std.proofs.Common.{◌≡◌, ◌++◌, ◌+◌, ◌-◌, ◌≤◌, None, length}
use Rattle.repair_core.specs.Rounds.{numbers_up}
use Rattle.repair_core.specs.Entries.{packed, IsPacking}
use Rattle.mask_register.specs.MaskRegister.{rows_after, due_of}
use Rattle.mask_register.specs.Window.{lowest_in}
use Rattle.mask_register.proofs.register.MaskRegister.round.Given as goal

abbrev pub invariant-loop-number : goal.invariant-loop-number
invariant-loop-number l = record {
  from : lowest_in l.window ≤ l.number;
  few : lowest_in l.window + length l.asks ≤ l.number;
  rows : l.asks ++ rows_after l.window l.self.asks l.now l.wait (numbers_up (l.number-end - l.number) l.number) ≡ rows_after l.window l.self.asks l.now l.wait (numbers_up (l.number-end - lowest_in l.window) (lowest_in l.window));
  entries : l.reports ++ packed l.begun (due_of l.window l.self.asks l.now l.wait (numbers_up (l.number-end - l.number) l.number)) ≡ l.fn.reports ++ packed None (due_of l.window l.self.asks l.now l.wait (numbers_up (l.number-end - lowest_in l.window) (lowest_in l.window)));
  packing : IsPacking (lowest_in l.window) (length l.fn.reports) l.number l.begun (length l.reports);
}
