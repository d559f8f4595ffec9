use Rattle.std.proofs.Common.{◌≡◌, ℕ, List, length, take}
use Rattle.std.specs.List.{AllByRecursion}
use Rattle.std.specs.VecDeque.{deque_len}
use Rattle.stream_core.specs.Reporting.{IsBrief, fronts_count, fronts_with}
use Rattle.stream_core.specs.RxRecord.{RxRecord, StandsFor}
use Rattle.stream_core.specs.Tables.{Along}
use Rattle.stream_core.proofs.streams.feedback.fronts.Given as goal

abbrev pub invariant-loop-place : goal.invariant-loop-place
invariant-loop-place g l = record {
  items : (rs : List (ℕ × RxRecord)) → Along (StandsFor g.W.GapWindow.remembers) l.streams rs → l.made.items ≡ fronts_with l.tick l.mids (take l.place rs);
  count : length l.made.items ≡ fronts_count l.mids (take l.place l.streams);
  len : deque_len l.made ≡ fronts_count l.mids (take l.place l.streams);
  brief : AllByRecursion IsBrief l.made.items;
}
