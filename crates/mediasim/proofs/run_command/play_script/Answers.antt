use Rattle.std.proofs.Common.{◌++◌, ◌∙◌, string_bytes}
use Rattle.media_script.specs.Text.{entries_text}
use Rattle.mediasim.specs.Lines.{bytes_of, reported}
use Rattle.mediasim.proofs.Runs.{run_makes, run_fronts, syntax_makes, first_told, none_told}
use Rattle.mediasim.proofs.run_command.play_script.Goals as goal

pub returns-in-Ok-clause-makes : goal.returns-in-Ok-clause-makes
returns-in-Ok-clause-makes c =
    let p = c.play_steps.result in
    let text = entries_text p.entries ++ bytes_of p.last in
    run_makes c.args.bytes.now c.in-Ok.setup c.in-Ok.steps.items p.end (reported p.end p.entries) text c.in-Ok.ensures.found
    c.play_steps.ensures.ended

pub returns-in-Ok-clause-fronts : goal.returns-in-Ok-clause-fronts
returns-in-Ok-clause-fronts c count =
    let entries = c.play_steps.result.entries in
    run_fronts c.args.bytes.now c.in-Ok.setup c.in-Ok.steps.items entries count c.in-Ok.ensures.found
    c.play_steps.ensures.entries

pub returns-in-Err-Syntax-clause-makes : goal.returns-in-Err-Syntax-clause-makes
returns-in-Err-Syntax-clause-makes c =
    let r = c.new-in-Err-Syntax.result in
    let s = c.in-Err-Syntax in
    syntax_makes (λ text. string_bytes text) c.args.bytes.now s.line r.entries c.syntax_line.result r.end (bytes_of r.last)
    c.new-in-Err-Syntax.ensures.last c.syntax_line.ensures (c.new-in-Err-Syntax.ensures.entries ∙ c.new.ensures)
    (first_told c.args.bytes.now s.line s.field-0 c.read_script.result s.is s.field-0-is c.read_script.ensures.first)
    (λ setup steps spelled. none_told (λ x. (x.0, x.1.items)) setup steps s.line s.field-0 c.read_script.result s.is s.field-0-is (c.read_script.ensures.only setup steps spelled))
