use Rattle.std.proofs.Common.{arith}
use Rattle.std.proofs.lemmas.Grind.{common_steps}
use Rattle.std.specs.Int.{w32, to_be_bytes}
use Rattle.twcc_core.proofs.Rows.{puts_more, puts_none, behind_more}
use Rattle.twcc_core.proofs.feedback.write_words.Goals as goal

pub loop-word-preserved : goal.loop-word-preserved
loop-word-preserved c = record {
  so_far = puts_more (to_be_bytes w32) c.args.all.now c.loop-word.word-index 0 c.args.out.now c.args.at c.loop-word.out c.put.new.out c.loop-word.end c.in-Some.next c.loop-word-test.true c.loop-word.invariant.so_far (rw c.to_be_bytes.ensures at c.in-Some.ensures.text);
  behind = behind_more _ _ _ _ _ _ c.in-Some.ensures.text.0 c.loop-word.invariant.behind c.in-Some.ensures.behind;
  same = grind (arith, common_steps);
}

pub returns-in-None-clause-text : goal.returns-in-None-clause-text
returns-in-None-clause-text c = puts_none (to_be_bytes w32) c.args.all.now c.loop-word.word-index 0 c.args.out.now c.args.at c.loop-word.out c.put.new.out c.loop-word.end c.loop-word-test.true c.loop-word.invariant.same c.loop-word.invariant.so_far (rw c.to_be_bytes.ensures at c.in-None.ensures.text)
