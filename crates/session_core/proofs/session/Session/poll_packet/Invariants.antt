use Rattle.std.proofs.Common.{◌≡◌, ◌≤◌}
use Rattle.std.specs.Prelude.{Option}
use Rattle.stream_core.specs.declared.stream_tx.PacketReceipt.{PacketReceipt}
use Rattle.session_core.specs.declared.error.RtcError.{RtcError}
use Rattle.session_core.specs.SessionRecord.{SessionRecord, StandsFor}
use Rattle.session_core.specs.Sending.{NextPacket, waiting_in}
use Rattle.session_core.specs.Draining.{PacketFails}
use Rattle.session_core.proofs.session.Session.poll_packet.Given as goal

abbrev pub invariant-loop-receipt : goal.invariant-loop-receipt
invariant-loop-receipt g l = record {
  runs : l.self.state.stopped ≡ l.fn.self.state.stopped;
  feedback : l.self.state.feedback ≡ l.fn.self.state.feedback;
  sealing : l.self.state.sealing ≡ l.fn.self.state.sealing;
  rx : l.self.rx ≡ l.fn.self.rx;
  known : l.self.known ≡ l.fn.self.known;
  probes : l.self.probes ≡ l.fn.self.probes;
  seen : l.self.seen ≡ l.fn.self.seen;
  fewer : waiting_in l.self ≤ waiting_in l.fn.self;
  goes : (r : SessionRecord) → StandsFor g.W.GapWindow.remembers g.S.ResendStore.stands_for l.fn.self r
      → (here : SessionRecord) × StandsFor g.W.GapWindow.remembers g.S.ResendStore.stands_for l.self here
      × ((after : SessionRecord) (o : Option PacketReceipt) → NextPacket l.now here after o → NextPacket l.now r after o)
      × ((after : SessionRecord) (e : RtcError) → PacketFails l.now here after e → PacketFails l.now r after e);
}

abbrev pub decreases-loop-receipt : goal.decreases-loop-receipt
decreases-loop-receipt g l = waiting_in l.self
