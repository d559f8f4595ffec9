use Rattle.std.proofs.Common.{◌≡◌, false, take}
use Rattle.stream_core.specs.InUse.{is_of}
use Rattle.stream_core.specs.TxRecord.{TxRecord}
use Rattle.stream_core.proofs.Any.{any_value}
use Rattle.stream_core.proofs.streams.in_use.is_sent.Given as goal

abbrev pub invariant-loop-place : goal.invariant-loop-place
invariant-loop-place l = any_value (λ (x : TxRecord). is_of l.ssrc x.ssrc x.rtx) (take l.place l.streams) ≡ false
