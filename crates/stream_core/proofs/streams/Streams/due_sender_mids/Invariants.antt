use Rattle.std.proofs.Common.{◌≡◌, ◌++◌, drop}
use Rattle.stream_core.specs.Reporting.{due_tx_mids}
use Rattle.stream_core.proofs.streams.Streams.due_sender_mids.Given as goal

abbrev pub invariant-loop-place : goal.invariant-loop-place
invariant-loop-place g l = l.mids.items ++ due_tx_mids l.intervals l.now (drop l.place l.self-inside.tx) ≡ due_tx_mids l.intervals l.now l.self-inside.tx
