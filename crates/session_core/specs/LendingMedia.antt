-- A session lends a media section.
use Rattle.std.specs.Prelude.{ℕ, List, Option}
use Rattle.std.specs.Borrow.{LendsIf, MutBor, Fml, RattleType}
use Rattle.repair_core.specs.declared.gap_window.GapWindow.{Ghosts}
use Rattle.resend_core.specs.declared.resend_store.ResendStore.{Ghosts as StoreGhosts}
use Rattle.srtp_core.specs.declared.cipher.SrtpCipher.{Ghosts as CipherGhosts}
use Rattle.stream_core.specs.Repairing.{SentPacket}
use Rattle.session_core.specs.Medias.{with_media}
use Rattle.session_core.specs.SessionRecord.{MediaRecord, SessionView}
use Rattle.session_core.specs.contracts.media.Media.{the_row as media_row}
use Rattle.session_core.specs.contracts.session.Session.{the_row}

-- the session ends with the last value behind r in the place of the first media section of the mid, and as it was where there
-- is none
abbrev pub LendsMedia : (C K L W S : RattleType) → CipherGhosts C.Denot K.Denot L.Denot → Ghosts W.Denot → StoreGhosts S.Denot SentPacket
    → MutBor (SessionView W.Denot S.Denot) → List ℕ → Option (MutBor MediaRecord) → Fml
LendsMedia C K L W S cipher window store s mid r = LendsIf (the_row C W S K L cipher window store) media_row s r (λ x. record s.now {
  state = record s.now.state { medias = with_media mid s.now.state.medias x };
}) s.now
