use Rattle.std.proofs.Common.{◌≡◌, ℕ, List, false, take}
use Rattle.stream_core.specs.Missing.{any_enabled}
use Rattle.stream_core.specs.RxRecord.{RxRecord, StandsFor}
use Rattle.stream_core.specs.Tables.{Along}
use Rattle.stream_core.proofs.streams.Streams.any_nack_enabled.Given as goal

abbrev pub invariant-loop-place : goal.invariant-loop-place
invariant-loop-place g l = (rs : List (ℕ × RxRecord)) → Along (StandsFor g.W.GapWindow.remembers) l.self-inside.rx rs → any_enabled (take l.place rs) ≡ false
