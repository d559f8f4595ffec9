use Rattle.std.proofs.Common.{◌≡◌, ℕ, ◌*◌, ◌<◌, length, get_or}
use Rattle.std.specs.Prelude.{slice_index, bit_xor}
use Rattle.srtp_core.specs.Streams.{counter_input, blocks_at}
use Rattle.srtp_core.proofs.key_stream.xor_stream.Given as goal

abbrev pub invariant-loop-n : goal.invariant-loop-n
invariant-loop-n g l = record {
  long : length l.output ≡ length l.input;
  each : (k : ℕ) → k < 16 * l.n → k < length l.input → get_or l.output k 0 ≡ bit_xor (slice_index l.input k) (blocks_at (λ n. g.S.BlockCipher.block_of l.key (counter_input l.counter n)) k);
}
