use Rattle.std.proofs.Common.{rules, tests, arith, ◌∙◌}
use Rattle.std.proofs.lemmas.Bool.{ne_eqb}
use Rattle.twcc_core.specs.Statuses.{symbol_of}
use Rattle.twcc_core.specs.Runs.{left_of}
use Rattle.twcc_core.proofs.Cursor.{first_starts, first_more, first_other, first_last, first_full}
use Rattle.twcc_core.proofs.chunk.first_run.Goals.{in_default-via-in-Some+else-symbol, in_default-via-in_default}
use Rattle.twcc_core.proofs.chunk.first_run.Goals as goal

pub loop-run-init : goal.loop-run-init
loop-run-init c = first_starts c.split_symbol-symbol.result.0 (left_of c.args.rows) c.split_symbol-symbol.ensures.value

pub returns-in_default-clause-value : goal.returns-in_default-clause-value
returns-in_default-clause-value c = elim c.in_default.branch [
  | in_default-via-in-Some+else-symbol w ↦
      let other = ne_eqb (symbol_of w.in-Some.row) c.split_symbol-symbol.result.0 (λ e. w.if-symbol.false (w.symbol.ensures.value ∙ e)) in
      first_other c.loop-run.run c.split_symbol-symbol.result.0 (left_of c.args.rows) (left_of c.loop-run.rest) (left_of c.next.new.self) w.in-Some.row (omega (arith, c.loop-run-test.true)) w.in-Some.ensures.steps other c.loop-run.invariant
  | in_default-via-in_default w ↦
      first_last c.loop-run.run c.split_symbol-symbol.result.0 (left_of c.args.rows) (left_of c.loop-run.rest) w.in_default.ensures.steps.0 c.loop-run.invariant
]

pub loop-run-preserved : goal.loop-run-preserved
loop-run-preserved c =
    first_more c.loop-run.run c.split_symbol-symbol.result.0 (left_of c.args.rows) (left_of c.loop-run.rest) (left_of c.next.new.self) c.in-Some.row (omega (arith, c.loop-run-test.true)) c.in-Some.ensures.steps (search (rules, tests)) c.loop-run.invariant

pub returns-clause-value : goal.returns-clause-value
returns-clause-value c = first_full c.loop-run.run c.split_symbol-symbol.result.0 (left_of c.args.rows) (left_of c.loop-run.rest) (omega (arith, c.loop-run-test.false)) c.loop-run.invariant
