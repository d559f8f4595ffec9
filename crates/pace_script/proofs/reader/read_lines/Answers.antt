use Rattle.std.proofs.Common.{ℕ, ◌∷◌, length, cond, Result, Err, List, sym, ap, ◌∙◌, arith, subst, length-append}
use Rattle.std.specs.Prelude.{Vec}
use Rattle.std.specs.declared.alloc.Global.{Global}
use Rattle.pace_core.specs.declared.run.PaceCall.{PaceCall}
use Rattle.media_script.specs.Gives.{GivesScript}
use Rattle.pace_script.specs.Grammar.{whole_of}
use Rattle.pace_script.proofs.Reading.{ends, goes_on, stops}
use Rattle.pace_script.proofs.reader.read_lines.Goals as goal

pub returns-in-Err : goal.returns-in-Err
returns-in-Err c =
    let cut = c.in-Some.ensures in
    rw c.at_line.ensures (stops c.pieces_are_lines.ensures c.loop-text.line c.loop-text.reader c.loop-text.rest.now _ c.loop-text.invariant.so_far c.in-Some.text.now c.in-Some.after.now cut.0 cut.1 c.in-Err.error c.in-Err.ensures)

pub loop-text-preserved : goal.loop-text-preserved
loop-text-preserved c =
    let cut = c.in-Some.ensures in
    record {
      so_far = goes_on c.pieces_are_lines.ensures c.loop-text.line c.loop-text.reader c.loop-text.rest.now _ c.loop-text.invariant.so_far c.in-Some.text.now c.in-Some.after.now cut.0 cut.1 c.in-Ok.reader c.in-Ok.ensures;
      lines = omega (arith, ap length cut.0, length-append c.in-Some.text.now (10 ∷ c.in-Some.after.now));
    }

pub returns-then-not-is_empty : goal.returns-then-not-is_empty
returns-then-not-is_empty c =
    ends c.pieces_are_lines.ensures c.loop-text.line c.loop-text.reader c.loop-text.rest.now _ c.loop-text.invariant.so_far c.in_default.ensures
    ∙ ap (λ b. cond b (whole_of c.loop-text.line c.loop-text.reader) (Err c.loop-text.line)) (sym c.if-not-is_empty.ensures)

pub returns : goal.returns
returns c =
    let at_end =
    ends c.pieces_are_lines.ensures c.loop-text.line c.loop-text.reader c.loop-text.rest.now _ c.loop-text.invariant.so_far c.in_default.ensures
    ∙ ap (λ b. cond b (whole_of c.loop-text.line c.loop-text.reader) (Err c.loop-text.line)) (sym c.if-not-is_empty.ensures) in
    subst (λ (read : Result (ℕ × List PaceCall) ℕ). GivesScript (λ (x : ℕ × Vec PaceCall Global). (x.0, x.1.items)) c.finish.result read) (sym at_end) c.finish.ensures
