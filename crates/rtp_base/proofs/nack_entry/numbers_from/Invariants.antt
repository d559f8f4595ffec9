use Rattle.std.proofs.Common.{◌≡◌, ◌≤◌, ◌+◌, length, ◌∷◌}
use Rattle.rtp_base.specs.NackEntry.{named_below}
use Rattle.rtp_base.proofs.nack_entry.numbers_from.Given as goal

abbrev pub invariant-loop-i : goal.invariant-loop-i
invariant-loop-i l = record {
  few : length l.numbers.items ≤ l.i + 1;
  so_far : l.numbers.items ≡ l.first ∷ named_below l.first l.bits l.i;
}
