use Rattle.std.proofs.Common.{◌∙◌, ap, sym, ℕ, drop, arith}
use Rattle.std.proofs.lemmas.List.{drop_min}
use Rattle.twcc_core.specs.Runs.{left_of}
use Rattle.twcc_core.proofs.Chunks.{run_first, vector_first}
use Rattle.twcc_core.proofs.chunk.first_chunk.Goals as goal

pub returns-then-run-ge-VECTOR_LEN-clause-chunk : goal.returns-then-run-ge-VECTOR_LEN-clause-chunk
returns-then-run-ge-VECTOR_LEN-clause-chunk c =
    let e = (run_first (left_of c.args.rows) (omega (arith, c.if-run-ge-VECTOR_LEN.true, c.first_run-run.ensures.value))).0 in
    omega (arith, e, c.from.ensures, c.split_symbol-symbol.ensures.value, c.first_run-run.ensures.value)

pub returns-then-run-ge-VECTOR_LEN-clause-rest : goal.returns-then-run-ge-VECTOR_LEN-clause-rest
returns-then-run-ge-VECTOR_LEN-clause-rest c =
    let e = (run_first (left_of c.args.rows) (omega (arith, c.if-run-ge-VECTOR_LEN.true, c.first_run-run.ensures.value))).1 in
    c.first_run-run.ensures.rest ∙ ap (λ (n : ℕ). drop n (left_of c.args.rows)) (c.first_run-run.ensures.value ∙ sym e)

pub returns-else-run-ge-VECTOR_LEN-clause-chunk : goal.returns-else-run-ge-VECTOR_LEN-clause-chunk
returns-else-run-ge-VECTOR_LEN-clause-chunk c =
    let e = (vector_first (left_of c.args.rows) (omega (arith, c.if-run-ge-VECTOR_LEN.false, c.first_run-run.ensures.value))).0 in
    c.first_vector.ensures.value ∙ sym e

pub returns-else-run-ge-VECTOR_LEN-clause-rest : goal.returns-else-run-ge-VECTOR_LEN-clause-rest
returns-else-run-ge-VECTOR_LEN-clause-rest c =
    let e = (vector_first (left_of c.args.rows) (omega (arith, c.if-run-ge-VECTOR_LEN.false, c.first_run-run.ensures.value))).1 in
    c.first_vector.ensures.rest ∙ sym (drop_min 7 (left_of c.args.rows)) ∙ ap (λ (n : ℕ). drop n (left_of c.args.rows)) (sym e)
