use Rattle.std.proofs.Common.{◌≡◌, ◌≢◌, ℕ, ◌/◌, ◌%◌, ◌<◌, length, get_or}
use Rattle.srtp_core.specs.Streams.{blocks_at}
use Rattle.srtp_core.specs.Keys.{derivation_input}
use Rattle.srtp_core.proofs.keying.SrtpKey.derive.Given as goal

abbrev pub invariant-loop-i : goal.invariant-loop-i
invariant-loop-i g l =
    let block = g.C.SrtpCipher.meaning.block l.self.master in
    record {
      key : l.key ≡ l.self.master;
      long : length l.block ≡ 16;
      whole : l.i % 16 ≢ 0 → l.block ≡ block (derivation_input l.self.salt l.label (l.i / 16));
      each : (k : ℕ) → k < l.i → get_or l.output k 0 ≡ blocks_at (λ round. block (derivation_input l.self.salt l.label round)) k;
    }
