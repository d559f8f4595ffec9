use Rattle.std.proofs.Common.{◌≡◌, ◌+◌, ◌≤◌, length}
use Rattle.media_script.specs.Grammar.{pieces_of}
use Rattle.pace_script.specs.Grammar.{read_from, script_of}
use Rattle.pace_script.proofs.reader.read_lines.Given as goal

abbrev pub invariant-loop-text : goal.invariant-loop-text
invariant-loop-text l = record {
  so_far : read_from l.line l.reader (pieces_of l.rest) ≡ script_of l.bytes;
  lines : l.line + length l.rest ≤ length l.bytes + 1;
}

abbrev pub decreases-loop-text : goal.decreases-loop-text
decreases-loop-text l = length l.rest
