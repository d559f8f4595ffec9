use Rattle.std.proofs.Common.{subst}
use Rattle.media_script.specs.Gives.{GivesScript}
use Rattle.pace_script.proofs.ScriptLaws.{found_of, short_of, script_again}
use Rattle.pace_script.proofs.WrongLaws.{rightly}
use Rattle.pace_script.proofs.reader.read_pace_script.Goals as goal

pub returns-clause-found : goal.returns-clause-found
returns-clause-found c = found_of c.words_are_spelled.ensures c.pieces_are_lines.ensures c.args.bytes.now c.read_lines.result c.read_lines.ensures

pub returns-clause-short : goal.returns-clause-short
returns-clause-short c =
    short_of c.args.bytes.now c.read_lines.result (found_of c.words_are_spelled.ensures c.pieces_are_lines.ensures c.args.bytes.now c.read_lines.result c.read_lines.ensures)

pub returns-clause-only : goal.returns-clause-only
returns-clause-only c = λ rate calls is.
    subst (λ read. GivesScript (λ x. (x.0, x.1.items)) c.read_lines.result read)
    (script_again c.words_are_spelled.ensures c.pieces_are_lines.ensures c.args.bytes.now rate calls is) c.read_lines.ensures

pub returns-clause-first : goal.returns-clause-first
returns-clause-first c = rightly c.words_are_spelled.ensures c.pieces_are_lines.ensures c.args.bytes.now c.read_lines.result c.read_lines.ensures
