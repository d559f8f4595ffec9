use Rattle.std.proofs.Common.{◌≡◌, ℕ, List, drop}
use Rattle.stream_core.specs.Pauses.{pause_before, first_pause}
use Rattle.stream_core.specs.RxRecord.{RxRecord, StandsFor}
use Rattle.stream_core.specs.Tables.{Along}
use Rattle.stream_core.proofs.streams.Streams.paused_at.Given as goal

abbrev pub invariant-loop-place : goal.invariant-loop-place
invariant-loop-place g l = (rs : List (ℕ × RxRecord)) → Along (StandsFor g.W.GapWindow.remembers) l.self-inside.rx rs → pause_before l.first (drop l.place rs) ≡ first_pause rs
