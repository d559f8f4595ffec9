use Rattle.std.proofs.Common.{◌≡◌, ◌+◌, ◌-◌, ◌≤◌, ◌++◌, ℕ, List, length, take, drop, if◌then◌else◌}
use Rattle.std.specs.List.{AllByRecursion}
use Rattle.std.specs.VecDeque.{deque_len, deque_capacity}
use Rattle.rtcp_wire.specs.declared.packet.Rtcp.{Rtcp}
use Rattle.stream_core.specs.Reporting.{IsBrief, fronts_count, fronts_with, items_with, after_with}
use Rattle.stream_core.specs.RxRecord.{RxRecord, StandsFor}
use Rattle.stream_core.specs.Tables.{Along}
use Rattle.stream_core.proofs.streams.feedback.say_all.Given as goal

abbrev pub invariant-loop-place : goal.invariant-loop-place
invariant-loop-place g l = record {
  long : length l.streams ≡ length l.fn.streams;
  so_far : (rs : List (ℕ × RxRecord)) → Along (StandsFor g.W.GapWindow.remembers) l.fn.streams rs → l.fn.made.items ≡ fronts_with l.tick l.mids rs
      → Along (StandsFor g.W.GapWindow.remembers) l.streams (after_with l.tick l.mids (take l.place rs) ++ drop l.place rs)
      × (l.feedback.items ≡ l.fn.feedback.items ++ items_with l.tick l.mids (take l.place rs))
      × (l.rest.items ≡ fronts_with l.tick l.mids (drop l.place rs));
  count : length l.rest.items ≡ fronts_count l.mids (drop l.place l.streams);
  rest_brief : AllByRecursion IsBrief l.rest.items;
  brief : (more : List Rtcp) × (l.feedback.items ≡ l.fn.feedback.items ++ more) × AllByRecursion IsBrief more;
  len : deque_len l.feedback + (length l.rest.items + (if l.tick.is_round then length l.fn.streams - l.place else 0))
      ≤ deque_len l.fn.feedback + (length l.fn.made.items + (if l.tick.is_round then length l.fn.streams else 0));
  capacity : deque_capacity l.feedback ≡ deque_capacity l.fn.feedback;
}
