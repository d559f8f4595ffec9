use Rattle.std.proofs.Common.{◌≡◌, ◌+◌, ◌≤◌, true, length}
use Rattle.media_script.specs.Grammar.{read_from, pieces_of, script_of}
use Rattle.media_script.specs.MayWant.{some_takes, may_want}
use Rattle.media_script.proofs.reader.read_lines.Given as goal

abbrev pub invariant-loop-text : goal.invariant-loop-text
invariant-loop-text l = record {
  so_far : read_from l.line l.reader (pieces_of l.rest) ≡ script_of l.bytes;
  takes : some_takes l.reader (pieces_of l.rest) ≡ true → may_want l.bytes ≡ true;
  lines : l.line + length l.rest ≤ length l.bytes + 1;
}

abbrev pub decreases-loop-text : goal.decreases-loop-text
decreases-loop-text l = length l.rest
