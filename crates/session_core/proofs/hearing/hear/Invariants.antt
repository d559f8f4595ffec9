use Rattle.std.proofs.Common.{◌≡◌}
use Rattle.stream_core.specs.StreamsRecord.{StreamsRecord, StandsFor}
use Rattle.session_core.specs.Hearing.{last_application}
use Rattle.session_core.specs.Reports.{rx_heard}
use Rattle.session_core.proofs.hearing.hear.Given as goal

abbrev pub invariant-loop-item : goal.invariant-loop-item
invariant-loop-item g l = record {
  streams : (r : StreamsRecord) → StandsFor g.W.GapWindow.remembers g.S.ResendStore.stands_for l.fn.streams r
      → StandsFor g.W.GapWindow.remembers g.S.ResendStore.stands_for l.streams (record r { rx = rx_heard l.now l.yielded r.rx });
  tx : l.streams.tx ≡ l.fn.streams.tx;
  repairs : l.streams.repairs ≡ l.fn.streams.repairs;
  threshold : l.streams.threshold ≡ l.fn.streams.threshold;
  known : l.streams.known ≡ l.fn.streams.known;
  application : l.application ≡ last_application l.yielded l.fn.application;
}
