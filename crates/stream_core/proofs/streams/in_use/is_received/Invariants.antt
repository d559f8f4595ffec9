use Rattle.std.proofs.Common.{◌≡◌, false, take}
use Rattle.stream_core.specs.InUse.{is_of}
use Rattle.stream_core.specs.RxRecord.{RxView}
use Rattle.stream_core.proofs.Any.{any_value}
use Rattle.stream_core.proofs.streams.in_use.is_received.Given as goal

abbrev pub invariant-loop-place : goal.invariant-loop-place
invariant-loop-place g l = any_value (λ (v : RxView g.row.W.Denot). is_of l.ssrc v.state.ssrc v.state.rtx) (take l.place l.streams) ≡ false
