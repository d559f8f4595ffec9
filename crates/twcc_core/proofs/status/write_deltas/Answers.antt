use Rattle.std.proofs.Common.{◌≡◌, length, arith}
use Rattle.std.proofs.lemmas.Grind.{common_steps}
use Rattle.twcc_core.specs.Runs.{left_of}
use Rattle.twcc_core.proofs.Cursor.{deltas_more}
use Rattle.twcc_core.proofs.status.write_deltas.Goals as goal

pub loop-row-preserved : goal.loop-row-preserved
loop-row-preserved c =
    let same : length c.write_delta.new.out ≡ length c.loop-row.out = grind (arith, common_steps) in
    deltas_more (left_of c.args.rows) (left_of c.loop-row.row-iterator) (left_of c.next.new.self) c.in-Some.row c.args.out.now c.args.at c.loop-row.out c.write_delta.new.out c.loop-row.end c.in-Some-write_delta.next c.in-Some.ensures.steps same
    c.in-Some-write_delta.ensures.text c.in-Some-write_delta.ensures.behind c.loop-row.invariant
