use Rattle.mediasim.proofs.PaceEnds.{first_told, none_told}
use Rattle.mediasim.proofs.pace_command.play_script.Goals as goal

pub returns-in_ok-syntax_line-in-Err-Syntax : goal.returns-in_ok-syntax_line-in-Err-Syntax
returns-in_ok-syntax_line-in-Err-Syntax c =
    let s = c.in-Err-Syntax in (
      first_told c.args.bytes.now s.line s.field-0 c.read_pace_script.result s.is s.field-0-is c.read_pace_script.ensures.first,
      λ rate calls spelled. none_told (λ x. (x.0, x.1.items)) rate calls s.line s.field-0 c.read_pace_script.result s.is s.field-0-is (c.read_pace_script.ensures.only rate calls spelled),
      c.in_ok-syntax_line-in-Err-Syntax.ensures,
    )
