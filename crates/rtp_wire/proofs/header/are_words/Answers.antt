use Rattle.std.proofs.Common.{arith}
use Rattle.rtp_wire.proofs.WordsAgain.{are_words}
use Rattle.rtp_wire.proofs.header.are_words.Goals as goal

pub returns : goal.returns
returns c = are_words c.args.words.now (λ k. omega (arith, c.type_inv.words k))
