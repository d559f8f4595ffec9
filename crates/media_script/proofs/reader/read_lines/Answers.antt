use Rattle.std.proofs.Common.{ℕ, ◌∷◌, length, cond, Result, Err, List, sym, ap, ◌∙◌, arith, subst, length-append}
use Rattle.std.specs.Prelude.{Vec}
use Rattle.std.specs.declared.alloc.Global.{Global}
use Rattle.media_model.specs.declared.setup.Setup.{Setup}
use Rattle.media_model.specs.declared.step.Step.{Step}
use Rattle.media_script.specs.Gives.{GivesScript}
use Rattle.media_script.specs.Grammar.{whole_of}
use Rattle.media_script.proofs.Reading.{ends, goes_on, stops, was_memory, takes_here, takes_later}
use Rattle.media_script.proofs.reader.read_lines.Goals as goal

pub returns-in-Err-clause-given : goal.returns-in-Err-clause-given
returns-in-Err-clause-given c =
    let cut = c.in-Some.ensures in
    rw c.at_line.ensures (stops c.loop-text.line c.loop-text.reader c.loop-text.rest.now _ c.loop-text.invariant.so_far c.in-Some.text.now c.in-Some.after.now cut.0 cut.1 c.in-Err.error c.in-Err.ensures.given)

pub returns-in-Err-clause-memory : goal.returns-in-Err-clause-memory
returns-in-Err-clause-memory c is =
    let cut = c.in-Some.ensures in
    c.loop-text.invariant.takes
    (takes_here c.loop-text.reader c.loop-text.rest.now c.in-Some.text.now c.in-Some.after.now cut.0 cut.1 (c.in-Err.ensures.memory (was_memory c.in-Err.error c.loop-text.line (sym c.at_line.ensures ∙ is))))

pub loop-text-preserved : goal.loop-text-preserved
loop-text-preserved c =
    let cut = c.in-Some.ensures in
    record {
      so_far = goes_on c.loop-text.line c.loop-text.reader c.loop-text.rest.now _ c.loop-text.invariant.so_far c.in-Some.text.now c.in-Some.after.now cut.0 cut.1 c.in-Ok.reader c.in-Ok.ensures.given;
      takes = λ later. c.loop-text.invariant.takes (takes_later c.loop-text.reader c.loop-text.rest.now c.in-Some.text.now c.in-Some.after.now cut.0 cut.1 c.in-Ok.reader c.in-Ok.ensures.given later);
      lines = omega (arith, ap length cut.0, length-append c.in-Some.text.now (10 ∷ c.in-Some.after.now));
    }

pub returns-then-not-is_empty-clause-given : goal.returns-then-not-is_empty-clause-given
returns-then-not-is_empty-clause-given c =
    ends c.loop-text.line c.loop-text.reader c.loop-text.rest.now _ c.loop-text.invariant.so_far c.in_default.ensures
    ∙ ap (λ b. cond b (whole_of c.loop-text.line c.loop-text.reader) (Err c.loop-text.line)) (sym c.if-not-is_empty.ensures)

pub returns-clause-given : goal.returns-clause-given
returns-clause-given c =
    let at_end =
    ends c.loop-text.line c.loop-text.reader c.loop-text.rest.now _ c.loop-text.invariant.so_far c.in_default.ensures
    ∙ ap (λ b. cond b (whole_of c.loop-text.line c.loop-text.reader) (Err c.loop-text.line)) (sym c.if-not-is_empty.ensures) in
    subst (λ (read : Result (Setup × List Step) ℕ). GivesScript (λ (x : Setup × Vec Step Global). (x.0, x.1.items)) c.finish.result read) (sym at_end) c.finish.ensures.given
