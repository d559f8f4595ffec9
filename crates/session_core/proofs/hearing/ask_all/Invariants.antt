use Rattle.std.proofs.Common.{◌≡◌, ℕ, List, take}
use Rattle.stream_core.specs.Repairing.{RepairsRecord}
use Rattle.stream_core.specs.StreamsRecord.{StreamsRecord, StandsFor}
use Rattle.session_core.specs.Hearing.{AskedByAll}
use Rattle.session_core.proofs.hearing.ask_all.Given as goal

abbrev pub invariant-loop-item : goal.invariant-loop-item
invariant-loop-item g l = record {
  asked : (r : StreamsRecord) → StandsFor g.W.GapWindow.remembers g.S.ResendStore.stands_for l.fn.streams r
      → (after : List (ℕ × RepairsRecord)) × AskedByAll l.now (take l.item-index l.fn.feedback) r.repairs after
      × StandsFor g.W.GapWindow.remembers g.S.ResendStore.stands_for l.streams (record r { repairs = after });
  others : l.streams ≡ record l.fn.streams { repairs = l.streams.repairs };
}
