use Rattle.std.proofs.Common.{arith}
use Rattle.std.specs.Prelude.{slice_index, bit_xor}
use Rattle.srtp_core.proofs.SimulatedLaws.{made}
use Rattle.srtp_core.specs.Hmac.{pad_of}
use Rattle.srtp_core.proofs.hmac.pad.Goals as goal

pub returns : goal.returns
unfolding pad_of
returns c = made (λ i. bit_xor c.args.with (slice_index c.args.key.now i)) c.loop-i.block 64 c.loop-i.invariant.long (λ k h. c.loop-i.invariant.each k (omega arith))
