use Rattle.std.proofs.Common.{arith}
use Rattle.media_play.proofs.Words.{are_words}
use Rattle.media_play.proofs.acting.are_words.Goals as goal

pub returns : goal.returns
returns c = are_words c.args.words.now (λ k. omega (arith, c.type_inv.words k))
