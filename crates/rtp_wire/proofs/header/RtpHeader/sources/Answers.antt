use Rattle.std.proofs.Common.{arith}
use Rattle.std.proofs.lemmas.Grind.{common_steps}
use Rattle.rtp_wire.proofs.WordsAgain.{source_put}
use Rattle.rtp_wire.proofs.header.RtpHeader.sources.Goals as goal

pub loop-i-preserved : goal.loop-i-preserved
loop-i-preserved c =
    source_put c.args.bytes.now c.loop-i.places c.loop-i.i c.word.result (grind (arith, common_steps)) (grind (arith, common_steps)) c.word.ensures c.loop-i.invariant
