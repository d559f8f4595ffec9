use Rattle.std.proofs.Common.{◌≡◌, ◌-◌, ◌*◌, ◌≤◌, ◌++◌, length}
use Rattle.std.specs.Vec.{vec_len, vec_capacity}
use Rattle.rtcp_wire.specs.Wire.{rows_of}
use Rattle.rtcp_wire.proofs.row.read_many.Given as goal

abbrev pub invariant-loop : goal.invariant-loop
invariant-loop g l = record {
  long : (l.count - l.counter) * g.T.Row.size ≤ length l.rest;
  full : vec_len l.rows ≡ l.counter;
  room : l.count ≤ vec_capacity l.rows;
  so_far : l.rows.items ++ rows_of g.T.Row.row_of g.T.Row.size (l.count - l.counter) l.rest ≡ rows_of g.T.Row.row_of g.T.Row.size l.count l.bytes;
}
