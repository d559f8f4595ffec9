use Rattle.std.proofs.Common.{arith}
use Rattle.srtp_core.specs.Streams.{blocks_at}
use Rattle.srtp_core.proofs.SimulatedLaws.{made}
use Rattle.srtp_core.specs.Keys.{derived, derivation_input}
use Rattle.srtp_core.proofs.keying.SrtpKey.derive.Goals as goal

pub returns : goal.returns
unfolding derived
returns g c =
    made (λ i. blocks_at (λ round. g.C.SrtpCipher.meaning.block c.args.self.now.master (derivation_input c.args.self.now.salt c.args.label round)) i)
    c.loop-i.output _ (omega arith) (λ k h. c.loop-i.invariant.each k (omega arith))
