use Rattle.std.proofs.Common.{◌≡◌, ◌++◌, length, take, drop}
use Rattle.stream_core.specs.Tables.{each}
use Rattle.stream_core.specs.TxRecord.{after_timeout}
use Rattle.stream_core.proofs.streams.tick_all.Given as goal

abbrev pub invariant-loop-place : goal.invariant-loop-place
invariant-loop-place l = record {
  long : length l.streams ≡ length l.fn.streams;
  so_far : l.streams ≡ each (after_timeout l.now) (take l.place l.fn.streams) ++ drop l.place l.fn.streams;
}
