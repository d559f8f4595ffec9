use Rattle.std.proofs.Common.{◌≡◌, ℕ, ◌*◌, ◌<◌, length, drop}
use Rattle.std.specs.Prelude.{slice_index, bit_xor}
use Rattle.srtp_core.specs.Toy.{column}
use Rattle.srtp_core.proofs.toy.mix_blocks.Given as goal

abbrev pub invariant-loop-n : goal.invariant-loop-n
invariant-loop-n l = record {
  long : length l.lanes ≡ 16;
  columns : (j : ℕ) → j < 16 → bit_xor (slice_index l.lanes j) (column j (16 * l.n) (drop (16 * l.n) l.blocks)) ≡ bit_xor (slice_index l.fn.tag j) (column j 0 l.blocks);
}
