use Rattle.std.proofs.Common.{◌≡◌, ℕ, ◌*◌, ◌<◌, length, get_or}
use Rattle.std.specs.Prelude.{slice_index, bit_xor}
use Rattle.srtp_core.specs.Streams.{blocks_at}
use Rattle.srtp_core.specs.Toy.{word_block}
use Rattle.srtp_core.proofs.toy.xor_words.Given as goal

abbrev pub invariant-loop-n : goal.invariant-loop-n
invariant-loop-n l = record {
  long : length l.output ≡ length l.input;
  each : (k : ℕ) → k < 16 * l.n → get_or l.output k 0 ≡ bit_xor (slice_index l.input k) (blocks_at (word_block l.first) k);
}
