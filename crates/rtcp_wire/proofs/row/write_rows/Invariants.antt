use Rattle.std.proofs.Common.{Some, take, length, ◌≡◌}
use Rattle.std.specs.List.{flat_map}
use Rattle.rtp_base.specs.Wire.{Puts}
use Rattle.rtcp_wire.proofs.row.write_rows.Given as goal

abbrev pub invariant-loop-row : goal.invariant-loop-row
invariant-loop-row g l = record {
  so_far : Puts l.initial.out l.initial.at (flat_map g.T.Put.text_of (take l.row-index l.rows)) l.out (Some l.end);
  same : length l.out ≡ length l.initial.out;
}
