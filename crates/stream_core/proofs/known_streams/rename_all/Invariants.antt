use Rattle.std.proofs.Common.{◌≡◌, ◌++◌, length, take, drop}
use Rattle.stream_core.specs.Known.{renamed_to}
use Rattle.stream_core.specs.Tables.{each}
use Rattle.stream_core.proofs.known_streams.rename_all.Given as goal

abbrev pub invariant-loop-place : goal.invariant-loop-place
invariant-loop-place l = record {
  long : length l.originals ≡ length l.fn.originals;
  so_far : l.originals ≡ each (renamed_to l.change) (take l.place l.fn.originals) ++ drop l.place l.fn.originals;
}
