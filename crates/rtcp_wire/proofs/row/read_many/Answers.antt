use Rattle.std.proofs.Common.{arith}
use Rattle.rtcp_wire.proofs.Rows.{rows_more, row_fits, rows_fit}
use Rattle.rtcp_wire.proofs.row.read_many.Goals as goal

pub read-requires : goal.read-requires
read-requires g c = row_fits g.T.Row.size c.args.count c.loop.counter _ c.loop-test.true c.loop.invariant.long

pub split_at-requires : goal.split_at-requires
split_at-requires g c = rw c.size.ensures (row_fits g.T.Row.size c.args.count c.loop.counter _ c.loop-test.true c.loop.invariant.long)

pub loop-preserved : goal.loop-preserved
loop-preserved g c = record {
  long = rw (c.split_at.ensures.back, c.size.ensures) (rows_fit g.T.Row.size c.args.count c.loop.counter _ c.loop-test.true c.loop.invariant.long);
  full = grind arith;
  room = grind arith;
  so_far = rw (c.push_reserved.ensures.items, c.read.ensures, c.split_at.ensures.back, c.size.ensures) (rows_more g.T.Row.row_of g.T.Row.size c.args.count c.loop.counter c.loop.rows.items c.loop.rest.now _ c.loop-test.true c.loop.invariant.so_far);
}
