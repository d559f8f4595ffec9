use Rattle.std.proofs.Common.{arith}
use Rattle.rtcp_wire.proofs.Rows.{len_more}
use Rattle.rtcp_wire.proofs.row.rows_len.Goals as goal

pub len-len-requires : goal.len-len-requires
len-len-requires g c =
    let more = len_more g.T.Put.text_of c.args.rows.now c.loop-row.row-index c.row-item.result c.loop-row-test.true c.row-item.is in
    omega (arith, more.0, more.1, c.requires)

pub overflow_add-len : goal.overflow_add-len
overflow_add-len g c =
    let more = len_more g.T.Put.text_of c.args.rows.now c.loop-row.row-index c.row-item.result c.loop-row-test.true c.row-item.is in
    omega (arith, more.0, more.1, c.requires, c.loop-row.invariant, c.len-len.ensures)
