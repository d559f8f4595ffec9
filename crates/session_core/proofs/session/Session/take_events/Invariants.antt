use Rattle.std.proofs.Common.{◌≡◌, ◌++◌}
use Rattle.session_core.specs.SessionRecord.{SessionRecord, StandsFor}
use Rattle.session_core.specs.Calls.{events_in, told, after_events}
use Rattle.session_core.proofs.session.Session.take_events.Given as goal

abbrev pub invariant-loop-self : goal.invariant-loop-self
invariant-loop-self g l = record {
  runs : l.self.state.stopped ≡ l.fn.self.state.stopped;
  front : (r : SessionRecord) → StandsFor g.W.GapWindow.remembers g.S.ResendStore.stands_for l.fn.self r
      → (between : SessionRecord) × StandsFor g.W.GapWindow.remembers g.S.ResendStore.stands_for l.self between
      × (told r ≡ l.sofar.items ++ told between) × (after_events between ≡ after_events r);
}

abbrev pub decreases-loop-self : goal.decreases-loop-self
decreases-loop-self g l = events_in l.self
