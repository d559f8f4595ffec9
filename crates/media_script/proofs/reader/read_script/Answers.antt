use Rattle.std.proofs.Common.{subst}
use Rattle.media_script.specs.Gives.{GivesScript}
use Rattle.media_script.proofs.ScriptLaws.{found_of, script_again}
use Rattle.media_script.proofs.WrongLaws.{rightly}
use Rattle.media_script.proofs.reader.read_script.Goals as goal

pub returns-clause-found : goal.returns-clause-found
returns-clause-found c = found_of c.args.bytes.now c.read_lines.result c.read_lines.ensures.given

pub returns-clause-only : goal.returns-clause-only
returns-clause-only c = λ setup steps is.
    subst (λ read. GivesScript (λ x. (x.0, x.1.items)) c.read_lines.result read) (script_again c.args.bytes.now setup steps is) c.read_lines.ensures.given

pub returns-clause-first : goal.returns-clause-first
returns-clause-first c = rightly c.args.bytes.now c.read_lines.result c.read_lines.ensures.given
