use Rattle.std.proofs.Common.{◌≡◌, ℕ, ◌<◌, length, get_or}
use Rattle.std.specs.Prelude.{bit_xor, slice_index}
use Rattle.srtp_core.proofs.hmac.pad.Given as goal

abbrev pub invariant-loop-i : goal.invariant-loop-i
invariant-loop-i l = record {
  long : length l.block ≡ 64;
  each : (k : ℕ) → k < l.i → get_or l.block k 0 ≡ bit_xor l.with (slice_index l.key k);
}
