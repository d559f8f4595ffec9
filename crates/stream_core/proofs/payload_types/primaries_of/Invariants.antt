use Rattle.std.proofs.Common.{◌≡◌, length, take}
use Rattle.stream_core.specs.Repairing.{ArePrimaries}
use Rattle.stream_core.proofs.payload_types.primaries_of.Given as goal

abbrev pub invariant-loop-place : goal.invariant-loop-place
invariant-loop-place l = record {
  long : length l.primaries ≡ 256;
  so_far : ArePrimaries l.primaries (take l.place l.rows.entries);
}
