use Rattle.std.proofs.Common.{arith}
use Rattle.std.specs.Prelude.{slice_index, bit_xor}
use Rattle.srtp_core.specs.Streams.{streamed, blocks_at, counter_input}
use Rattle.srtp_core.proofs.SimulatedLaws.{made}
use Rattle.srtp_core.proofs.key_stream.xor_stream.Goals as goal

pub returns : goal.returns
unfolding streamed
returns g c =
    made (λ i. bit_xor (slice_index c.args.input.now i) (blocks_at (λ n. g.S.BlockCipher.block_of c.args.key.now (counter_input c.args.counter.now n)) i))
    c.loop-n.output _ (omega arith) (λ k h. c.loop-n.invariant.each k (omega arith) (omega arith))
