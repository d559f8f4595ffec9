use Rattle.std.proofs.Common.{◌∙◌}
use Rattle.rtp_wire.proofs.WordsAgain.{put_more}
use Rattle.rtp_wire.proofs.header.put_words.Goals as goal

pub loop-i-preserved : goal.loop-i-preserved
loop-i-preserved c =
    c.put_word.ensures ∙ put_more c.loop-i.bytes c.args.bytes.now c.args.words.now c.loop-i.i c.loop-i-test.true c.loop-i.invariant
