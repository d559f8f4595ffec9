use Rattle.std.proofs.Common.{◌≡◌, ◌++◌, length, take, drop}
use Rattle.stream_core.specs.Pauses.{on_view, with_trip}
use Rattle.stream_core.specs.Tables.{each}
use Rattle.stream_core.proofs.streams.set_trips.Given as goal

abbrev pub invariant-loop-place : goal.invariant-loop-place
invariant-loop-place g l = record {
  long : length l.streams ≡ length l.fn.streams;
  so_far : l.streams ≡ each (on_view (with_trip l.trip)) (take l.place l.fn.streams) ++ drop l.place l.fn.streams;
}
