use Rattle.std.proofs.Common.{◌≡◌, false}
use Rattle.session_core.specs.SessionRecord.{SessionRecord, StandsFor}
use Rattle.session_core.specs.Sending.{waiting_in, DrainsTo}
use Rattle.session_core.proofs.session.Session.drain_datagrams.Given as goal

abbrev pub invariant-loop-now : goal.invariant-loop-now
invariant-loop-now g l = record {
  runs : l.self.state.stopped ≡ false;
  drained : (r : SessionRecord) → StandsFor g.W.GapWindow.remembers g.S.ResendStore.stands_for l.fn.self r
      → (here : SessionRecord) × DrainsTo g.C.SrtpCipher.meaning l.now r here l.sofar.items × StandsFor g.W.GapWindow.remembers g.S.ResendStore.stands_for l.self here;
}

abbrev pub decreases-loop-now : goal.decreases-loop-now
decreases-loop-now g l = waiting_in l.self
