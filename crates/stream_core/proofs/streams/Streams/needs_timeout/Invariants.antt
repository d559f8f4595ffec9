use Rattle.std.proofs.Common.{◌≡◌, false, take}
use Rattle.stream_core.specs.TxRecord.{any_waits}
use Rattle.stream_core.proofs.streams.Streams.needs_timeout.Given as goal

abbrev pub invariant-loop-place : goal.invariant-loop-place
invariant-loop-place g l = any_waits (take l.place l.self-inside.tx) ≡ false
