-- What a session does at each call of a run is a turn.
use Rattle.std.specs.Prelude.{◌≡◌, ◌≤◌, ◌<◌, ℕ, List, [], ◌∷◌, slice_index, Option, Some, None}
use Rattle.rtp_base.specs.declared.kind.Kind.TheVariants.{Rtp, Rtcp}
use Rattle.rtcp_wire.specs.declared.feedback.AppSpecificFeedback.{AppSpecificFeedback as Application}
use Rattle.rtcp_wire.specs.declared.packet.Rtcp.TheVariants.{AppSpecificFeedback}
use Rattle.srtp_core.specs.Cipher.{CipherMeaning}
use Rattle.srtp_core.specs.declared.counter.Counter.TheVariants as srtcp
use Rattle.stream_core.specs.declared.requests.RxRequests.{RxRequests}
use Rattle.stream_core.specs.Pauses.{on_record}
use Rattle.stream_core.specs.RxRecord.{RxState}
use Rattle.stream_core.specs.Tables.{place_of, change_place}
use Rattle.stream_core.specs.TxRecord.{written}
use Rattle.session_core.specs.declared.datagram.Datagram.{Datagram}
use Rattle.session_core.specs.declared.datagram.Opened.{Opened as Opening}
use Rattle.session_core.specs.Calls.{after_events, with_feedback}
use Rattle.session_core.specs.Feedback.{FitsAlone}
use Rattle.session_core.specs.Hearing.{ReceivesRtcp}
use Rattle.session_core.specs.Receiving.{Receives, Takes}
use Rattle.session_core.specs.Rounds.{after_timeout}
use Rattle.session_core.specs.declared.error.RtcError.{RtcError}
use Rattle.session_core.specs.declared.error.RtcError.TheVariants.{KeyExhausted, RepairsExhausted}
use Rattle.session_core.specs.Draining.{IsDrainCut}
use Rattle.session_core.specs.Sending.{NextDatagram, Drains}
use Rattle.session_core.specs.SessionRecord.{SessionRecord}
use Rattle.media_model.specs.declared.entry.Side.{Side}
use Rattle.media_model.specs.declared.entry.Write.{Write}
use Rattle.run_model.specs.Events.{Event, wrote, ticked, called, got}
use Rattle.run_model.specs.Tables.{Table, IsUnused, IsUsedUpIn}
use Rattle.run_model.specs.Whole.{Config, Session, Turns, CutsOff}
use Rattle.session_turns.specs.Reading.{event_of, events_of, events_opened}
use Rattle.session_turns.specs.Mirrors.{IsGiven, write_at, Mirrors, IsFit}
use Rattle.srtp_core.specs.declared.context.TheConstants.{SRTCP_INDEX_LIMIT}
use Rattle.media_model.specs.declared.step.TheConstants.{LAST_TIME}

-- a turn of a plain session that brings these events, to one that a record mirrors; types, header extensions and the latch of
-- the session are as they were
pub record TurnsTo (cipher : CipherMeaning) (C : Config) (side : Side) (r : SessionRecord) (a : Session) (after : SessionRecord) (events : List Event) : Type 0 where
  pub session : Session
  pub turn : Turns C side a session events
  pub mirrors : Mirrors cipher C side after session
  pub types : after.state.types ≡ r.state.types
  pub exts : after.state.transport.exts ≡ r.state.transport.exts
  pub runs : after.state.stopped ≡ r.state.stopped

-- RTP maps to no stream in a session that mirrors a plain one: bytes make of it what they make of one whose tables have their SSRC
abbrev pub MapsNothing : Type 0
MapsNothing =
    (cipher : CipherMeaning) (C : Config) (side : Side) (r after : SessionRecord) (a : Session) (time : ℕ) (bytes : List ℕ) (o : Option Opening) → Mirrors cipher C side r a
    → Receives cipher r bytes time after o → Takes cipher r bytes time after o

-- a write whose number was not used is handed to its stream
abbrev pub WritesTurn : Type 0
WritesTurn =
    (cipher : CipherMeaning) (C : Config) (side : Side) (r : SessionRecord) (a : Session) (place time : ℕ) (w : Write) → IsFit C → Mirrors cipher C side r a
    → a.rx.now ≤ time → IsGiven w.ssrc w → IsUnused w a.tx → place_of w.ssrc r.state.tx ≡ Some place
    → TurnsTo cipher C side r a (record r { state = record r.state { tx = change_place (written (write_at time w)) r.state.tx place } }) (wrote time w ∷ [])

-- a tick, and all that leaves after it
abbrev pub TicksTurn : Type 0
TicksTurn =
    (cipher : CipherMeaning) (C : Config) (side : Side) (r after : SessionRecord) (a : Session) (time : ℕ) (all : List Datagram) → IsFit C → Mirrors cipher C side r a
    → a.rx.now ≤ time → 0 < time → time ≤ LAST_TIME → Drains cipher time (after_events (after_timeout time r)) after all
    → TurnsTo cipher C side r a after (ticked time ∷ events_of r.state.transport.exts all)

-- why a tick is cut off that leaves these streams and this index: no index is left, or no number for a repair that is due
abbrev pub IsCutFor : RtcError → Table → ℕ → Type 0
IsCutFor (KeyExhausted srtcp.Rtcp) streams next = next ≡ SRTCP_INDEX_LIMIT
IsCutFor (RepairsExhausted ssrc) streams next = IsUsedUpIn ssrc streams
IsCutFor error streams next = Unit {0}

-- what leaves before an error ends a tick is that of a plain session whose tick is cut off
pub record CutsTo (cipher : CipherMeaning) (C : Config) (side : Side) (r : SessionRecord) (a : Session) (time : ℕ) (error : RtcError) (sent : List Datagram) : Type 0 where
  pub streams : Table
  pub next : ℕ
  pub cut : CutsOff C side a time streams next (events_of r.state.transport.exts sent)
  pub cause : IsCutFor error streams next

-- a tick, and all that leaves after it before an error
abbrev pub TicksCut : Type 0
TicksCut =
    (cipher : CipherMeaning) (C : Config) (side : Side) (r after : SessionRecord) (a : Session) (time : ℕ) (error : RtcError) (sent : List Datagram) → IsFit C → Mirrors cipher C side r a
    → a.rx.now ≤ time → 0 < time → time ≤ LAST_TIME → IsDrainCut cipher time (after_events (after_timeout time r)) error after sent
    → CutsTo cipher C side r a time error sent

-- an RTP datagram of bytes comes, and all that is told then is taken
abbrev pub OpensTurn : Type 0
OpensTurn =
    (cipher : CipherMeaning) (C : Config) (side : Side) (r after : SessionRecord) (a : Session) (time : ℕ) (bytes : List ℕ) (o : Option Opening) → IsFit C → Mirrors cipher C side r a
    → a.rx.now ≤ time → time ≤ LAST_TIME → ((i : ℕ) → slice_index bytes i < 256) → Receives cipher r bytes time after o
    → TurnsTo cipher C side r a (after_events after) (got time Rtp bytes ∷ events_opened r.state.transport.exts o after.state.packet)

-- an RTCP datagram comes, and all that is told then is taken
abbrev pub HearsTurn : Type 0
HearsTurn =
    (cipher : CipherMeaning) (C : Config) (side : Side) (r after : SessionRecord) (a : Session) (time : ℕ) (bytes : List ℕ) (o : Option Opening) → IsFit C → Mirrors cipher C side r a
    → a.rx.now ≤ time → time ≤ LAST_TIME → ReceivesRtcp cipher r bytes time after o
    → TurnsTo cipher C side r a (after_events after) (got time Rtcp bytes ∷ events_opened r.state.transport.exts o None)

-- the application sends feedback of its own, which leaves at once
abbrev pub CallsTurn : Type 0
CallsTurn =
    (cipher : CipherMeaning) (C : Config) (side : Side) (r after : SessionRecord) (a : Session) (time : ℕ) (feedback : Application) (d : Datagram) → IsFit C → Mirrors cipher C side r a
    → a.rx.now ≤ time → 0 < time → FitsAlone (AppSpecificFeedback feedback)
    → NextDatagram cipher time (record r { state = with_feedback (AppSpecificFeedback feedback) r.state }) after (Some d)
    → TurnsTo cipher C side r a after (called time ∷ event_of r.state.transport.exts d ∷ [])

-- what an incoming stream asks of its sender changes so
abbrev pub requesting : (RxRequests → RxRequests) → RxState → RxState
requesting f s = record s { requests = f s.requests }

-- an incoming stream asks its sender for something else: what it asks for leaves in a later tick
abbrev pub RequestsTurn : Type 0
RequestsTurn =
    (cipher : CipherMeaning) (C : Config) (side : Side) (r : SessionRecord) (a : Session) (place time : ℕ) (f : RxRequests → RxRequests) → IsFit C → Mirrors cipher C side r a
    → a.rx.now ≤ time → TurnsTo cipher C side r a (record r { rx = change_place (on_record (requesting f)) r.rx place }) (called time ∷ [])
