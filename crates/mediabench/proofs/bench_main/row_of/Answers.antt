use Rattle.std.proofs.lemmas.Bool.Decides.{Decides-eqb, not_from_Decides}
use Rattle.std.proofs.lemmas.Slice.Eq.{slice_eq-Decides}
use Rattle.mediabench.proofs.Named.{one_more, none_of_all}
use Rattle.mediabench.proofs.bench_main.row_of.Goals as goal

pub loop-row-preserved : goal.loop-row-preserved
loop-row-preserved c =
    let decides = slice_eq-Decides Decides-eqb _ _ _ c.eq.ensures in
    one_more c.args.rows.now c.loop-row.row-index _ c.args.name.now c.loop-row-test.true c.loop-row.invariant (not_from_Decides _ decides c.if-eq.false)

pub returns : goal.returns
returns c = none_of_all c.args.rows.now c.loop-row.row-index c.args.name.now c.loop-row-test.false c.loop-row.invariant
