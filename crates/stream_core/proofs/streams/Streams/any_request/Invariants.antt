use Rattle.std.proofs.Common.{◌≡◌, ℕ, List, false, take}
use Rattle.stream_core.specs.Reporting.{any_request}
use Rattle.stream_core.specs.RxRecord.{RxRecord, StandsFor}
use Rattle.stream_core.specs.Tables.{Along}
use Rattle.stream_core.proofs.streams.Streams.any_request.Given as goal

abbrev pub invariant-loop-place : goal.invariant-loop-place
invariant-loop-place g l = (rs : List (ℕ × RxRecord)) → Along (StandsFor g.W.GapWindow.remembers) l.self-inside.rx rs → any_request (take l.place rs) ≡ false
