use Rattle.std.proofs.Common.{◌≡◌, ◌++◌, ◌+◌, ◌-◌, ◌≤◌, None, length}
use Rattle.repair_core.specs.Rounds.{numbers_up}
use Rattle.repair_core.specs.Entries.{packed, IsPacking}
use Rattle.repair_core.specs.Slots.{ask_all, due_in}
use Rattle.repair_core.proofs.register_nack.NackRegister.round.Given as goal

abbrev pub invariant-loop-number : goal.invariant-loop-number
invariant-loop-number l = record {
  same : l.self ≡ record l.fn.self { slots = l.self.slots };
  from : l.low ≤ l.number;
  near : l.fn.self.greatest ≤ l.low + 100;
  asked : ask_all l.now l.wait l.self.slots (numbers_up (l.number-end - l.number) l.number) ≡ ask_all l.now l.wait l.fn.self.slots (numbers_up (l.number-end - l.low) l.low);
  entries : l.reports ++ packed l.begun (due_in l.now l.wait l.self.slots (numbers_up (l.number-end - l.number) l.number)) ≡ l.fn.reports ++ packed None (due_in l.now l.wait l.fn.self.slots (numbers_up (l.number-end - l.low) l.low));
  packing : IsPacking l.low (length l.fn.reports) l.number l.begun (length l.reports);
}
