use Rattle.std.proofs.Common.{◌≡◌, ℕ, ◌-◌, ◌<◌, ◌≤◌, get_or}
use Rattle.std.specs.Prelude.{bit_xor, slice_index}
use Rattle.srtp_core.proofs.key_stream.xor_block.Given as goal

abbrev pub invariant-loop-i : goal.invariant-loop-i
invariant-loop-i l = record {
  before : (k : ℕ) → k < l.at → get_or l.output k 0 ≡ get_or l.fn.output k 0;
  here : (k : ℕ) → l.at ≤ k → k < l.i → get_or l.output k 0 ≡ bit_xor (slice_index l.input k) (slice_index l.block (k - l.at));
}
