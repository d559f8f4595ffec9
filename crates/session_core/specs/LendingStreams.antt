-- A session lends its streams.
use Rattle.std.specs.Borrow.{Lends, MutBor, Fml, RattleType}
use Rattle.repair_core.specs.declared.gap_window.GapWindow.{Ghosts}
use Rattle.resend_core.specs.declared.resend_store.ResendStore.{Ghosts as StoreGhosts}
use Rattle.srtp_core.specs.declared.cipher.SrtpCipher.{Ghosts as CipherGhosts}
use Rattle.stream_core.specs.Repairing.{SentPacket}
use Rattle.stream_core.specs.StreamsRecord.{StreamsView}
use Rattle.stream_core.specs.contracts.streams.Streams.{the_row as streams_row}
use Rattle.session_core.specs.SessionRecord.{SessionView}
use Rattle.session_core.specs.contracts.session.Session.{the_row}

-- the session ends with the last value behind r as its streams
abbrev pub LendsStreams : (C K L W S : RattleType) → CipherGhosts C.Denot K.Denot L.Denot → Ghosts W.Denot → StoreGhosts S.Denot SentPacket
    → MutBor (SessionView W.Denot S.Denot) → MutBor (StreamsView W.Denot S.Denot) → Fml
LendsStreams C K L W S cipher window store s r = Lends (the_row C W S K L cipher window store) (streams_row W S window store) s r (λ x. record s.now {
  state = record s.now.state { tx = x.tx; pause_threshold = x.threshold };
  rx = x.rx;
  known = x.known;
  repairs = x.repairs;
})
