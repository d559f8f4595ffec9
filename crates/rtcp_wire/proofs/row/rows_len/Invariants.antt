use Rattle.std.proofs.Common.{take, length, ◌≡◌}
use Rattle.std.specs.List.{flat_map}
use Rattle.rtcp_wire.proofs.row.rows_len.Given as goal

abbrev pub invariant-loop-row : goal.invariant-loop-row
invariant-loop-row g l = l.len ≡ length (flat_map g.T.Put.text_of (take l.row-index l.rows))
