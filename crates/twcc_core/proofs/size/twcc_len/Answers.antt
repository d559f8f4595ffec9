use Rattle.std.proofs.Common.{arith}
use Rattle.twcc_core.specs.declared.feedback.Twcc.{Twcc}
use Rattle.twcc_core.specs.Runs.{left_of}
use Rattle.twcc_core.proofs.Cursor.{sized_more, sized_bounds, sized_ends}
use Rattle.twcc_core.proofs.Nothing.{size_written}
use Rattle.twcc_core.proofs.size.twcc_len.Goals as goal

pub add-requires-clause-chunks : goal.add-requires-clause-chunks
add-requires-clause-chunks c = (sized_bounds c.args.twcc.now.rows (left_of c.loop-row.row-iterator) c.loop-row.size c.requires c.loop-row.invariant).0

pub add-requires-clause-deltas : goal.add-requires-clause-deltas
add-requires-clause-deltas c = (sized_bounds c.args.twcc.now.rows (left_of c.loop-row.row-iterator) c.loop-row.size c.requires c.loop-row.invariant).1

pub loop-row-preserved : goal.loop-row-preserved
loop-row-preserved c = sized_more c.args.twcc.now.rows (left_of c.loop-row.row-iterator) (left_of c.next.new.self) c.in-Some.row c.loop-row.size c.add.new.self c.in-Some.ensures.steps c.add.ensures c.loop-row.invariant

pub bytes-requires-clause-chunks : goal.bytes-requires-clause-chunks
bytes-requires-clause-chunks c =
    let b = (sized_bounds c.args.twcc.now.rows (left_of c.loop-row.row-iterator) c.loop-row.size c.requires c.loop-row.invariant).0 in
    omega (arith, b)

pub bytes-requires-clause-deltas : goal.bytes-requires-clause-deltas
bytes-requires-clause-deltas c =
    let b = (sized_bounds c.args.twcc.now.rows (left_of c.loop-row.row-iterator) c.loop-row.size c.requires c.loop-row.invariant).1 in
    omega (arith, b)

pub returns : goal.returns
returns c =
    let t : Twcc = c.args.twcc.now in
    let size = sized_ends t.rows (left_of c.loop-row.row-iterator) c.loop-row.size c.in-None.ensures.steps.0 c.loop-row.invariant in
    omega (arith, c.bytes.ensures, size, size_written t)
