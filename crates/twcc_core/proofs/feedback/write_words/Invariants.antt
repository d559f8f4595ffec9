use Rattle.std.proofs.Common.{◌≡◌, Some, take, drop, length}
use Rattle.rtp_base.specs.Wire.{words, Puts}
use Rattle.twcc_core.proofs.feedback.write_words.Given as goal

abbrev pub invariant-loop-word : goal.invariant-loop-word
invariant-loop-word l = record {
  so_far : Puts l.initial.out l.initial.at (words (take l.word-index l.all)) l.out (Some l.end);
  behind : drop l.end l.out ≡ drop l.end l.initial.out;
  same : length l.out ≡ length l.initial.out;
}
