use Rattle.mediabench.proofs.Lines.{row_told, none_told}
use Rattle.mediabench.proofs.report.tell_rows.Goals as goal

pub loop-row-preserved : goal.loop-row-preserved
loop-row-preserved g c = λ held rest.
    let told = c.in_ok-tell_row.ensures in
    c.loop-row.invariant held (row_told c.args.rows.now c.loop-row.row-index _ told.0 _ _ held c.loop-row-test.true told.1 rest)

pub returns : goal.returns
returns g c = c.loop-row.invariant _ (none_told c.args.rows.now c.loop-row.row-index _ c.loop-row-test.false)
