use Rattle.std.proofs.Common.{◌≡◌, ℕ, ◌+◌, ◌*◌, ◌<◌, length, drop}
use Rattle.std.specs.Prelude.{slice_index, bit_xor}
use Rattle.srtp_core.specs.Toy.{column}
use Rattle.srtp_core.proofs.toy.mix_fours.Given as goal

abbrev pub invariant-loop-n : goal.invariant-loop-n
invariant-loop-n l = record {
  long : length l.tag ≡ 16;
  columns : (j : ℕ) → j < 16 → bit_xor (slice_index l.tag j) (column j (l.at + 4 * l.n) (drop (4 * l.n) l.bytes)) ≡ bit_xor (slice_index l.fn.tag j) (column j l.at l.bytes);
}
