use Rattle.std.proofs.Common.{arith}
use Rattle.std.specs.Prelude.{slice_index, bit_xor}
use Rattle.media_base.specs.Text.{xored}
use Rattle.srtp_core.proofs.SimulatedLaws.{made}
use Rattle.srtp_core.proofs.gcm.xor_into.Goals as goal

pub returns : goal.returns
unfolding xored
returns c = made (λ i. bit_xor (slice_index c.args.bytes.now i) (slice_index c.args.with.now i)) c.loop-i.bytes _ (omega arith) (λ k h. c.loop-i.invariant.each k (omega arith))
