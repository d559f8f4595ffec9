use Rattle.std.proofs.Common.{◌≡◌, ℕ, ◌+◌, ◌<◌, length, drop}
use Rattle.std.specs.Prelude.{slice_index, bit_xor}
use Rattle.srtp_core.specs.Toy.{column}
use Rattle.srtp_core.proofs.toy.mix_each.Given as goal

abbrev pub invariant-loop-i : goal.invariant-loop-i
invariant-loop-i l = record {
  long : length l.tag ≡ 16;
  columns : (j : ℕ) → j < 16 → bit_xor (slice_index l.tag j) (column j (l.at + l.i) (drop l.i l.bytes)) ≡ bit_xor (slice_index l.fn.tag j) (column j l.at l.bytes);
}
