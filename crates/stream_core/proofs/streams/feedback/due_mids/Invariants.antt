use Rattle.std.proofs.Common.{◌≡◌, ℕ, List, take}
use Rattle.stream_core.specs.Reporting.{due_mids}
use Rattle.stream_core.specs.RxRecord.{RxRecord, StandsFor}
use Rattle.stream_core.specs.Tables.{Along}
use Rattle.stream_core.proofs.streams.feedback.due_mids.Given as goal

abbrev pub invariant-loop-place : goal.invariant-loop-place
invariant-loop-place g l = (rs : List (ℕ × RxRecord)) → Along (StandsFor g.W.GapWindow.remembers) l.streams rs → l.mids.items ≡ due_mids l.intervals l.now (take l.place rs)
