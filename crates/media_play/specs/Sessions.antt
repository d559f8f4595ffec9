-- What a session knows of the entries so far.
use Rattle.std.specs.Prelude.{◌≡◌, ◌<◌, ◌≤◌, ℕ, false, is_some, List, [], ◌∷◌, ◌++◌, Option, Some, None}
use Rattle.std.specs.List.{AllByRecursion}
use Rattle.srtp_core.specs.Cipher.{CipherMeaning}
use Rattle.stream_core.specs.Tables.{place_of}
use Rattle.session_core.specs.SessionRecord.{SessionRecord}
use Rattle.media_laws.specs.Right.{IsRightSeal}
use Rattle.media_play.specs.declared.fault.StepError.{StepError}
use Rattle.media_play.specs.declared.fault.StepError.TheVariants.{Memory, Rule, KeyExhausted, Stopped}
use Rattle.session_turns.specs.Mirrors.{Mirrors, IsFit}
use Rattle.media_model.specs.declared.entry.Side.{Side}
use Rattle.media_model.specs.declared.entry.Packet.{Packet}
use Rattle.media_model.specs.declared.entry.Got.{Got as GotEntry}
use Rattle.media_model.specs.declared.entry.Entry.{Entry}
use Rattle.media_model.specs.declared.entry.Entry.TheVariants.{Ticked, Got, Opened, Yielded}
use Rattle.media_model.specs.declared.setup.Setup.{Setup}
use Rattle.media_model.specs.Setup.{types_of}
use Rattle.run_model.specs.Events.{Event}
use Rattle.run_model.specs.Runs.{on_side}
use Rattle.run_model.specs.Transcripts.{happenings}
use Rattle.run_model.specs.Whole.{Session, Turns}
use Rattle.setup_rules.specs.SetupRules.{setup_fault}
use Rattle.media_play.specs.declared.end.Received.{Received}
use Rattle.media_play.specs.declared.numbers.Numbers.{Numbers}
use Rattle.media_laws.specs.Config.{config_of}
use Rattle.media_laws.specs.Exhausting.{IsCutTick, LacksNumber}
use Rattle.media_play.specs.Ends.{EndSession, SessionStands}
use Rattle.media_play.specs.Knowing.{AreUsed, IsWrittenIn}
use Rattle.media_laws.specs.Keys.{sealing_of}
use Rattle.media_laws.specs.Plain.{extensions_of}
use Rattle.media_laws.specs.Play.{IsBroughtBy}
use Rattle.media_laws.specs.Rules.{has}
use Rattle.media_model.specs.declared.step.TheConstants.{LAST_TIME}

-- one end of a run: its session, and the numbers that were written on each stream that it sends
pub record EndState : Type 0 where
  pub session : EndSession
  pub written : List Numbers

-- the session of a side mirrors a plain session, and runs; its types and header extensions are the setup's; and the numbers that
-- were written on each of its streams are known; the plain session has written no others; and the configuration fits its fields
pub record Ready (cipher : CipherMeaning) (setup : Setup) (side : Side) (end : EndState) (a : Session)
    (entries : List Entry) : Type 0 where
  pub session : SessionRecord
  pub stands : SessionStands end.session session
  pub mirrors : Mirrors cipher (config_of (sealing_of cipher setup) setup) side session a
  pub types : (pt : ℕ) → is_some (place_of pt session.state.types) ≡ has (types_of setup) pt
  pub exts : session.state.transport.exts ≡ extensions_of setup
  pub runs : session.state.stopped ≡ false
  pub used : AreUsed setup side entries end.written
  pub wrote : AllByRecursion (IsWrittenIn side entries) a.tx
  pub fit : IsFit (config_of (sealing_of cipher setup) setup)

abbrev pub yielded : Side → Option Packet → List Entry
yielded side None = []
yielded side (Some packet) = Yielded side packet ∷ []

-- what a datagram brought that came to a side
abbrev pub received_entries : Side → Option Received → List Entry
received_entries side None = []
received_entries side (Some r) =
    Opened (record { side = side; kind = r.kind; ssrc = r.ssrc; index = r.number; plain = r.plain })
    ∷ yielded side r.packet

-- the session of a side turns so, from one plain session to another, and the end is ready again after these entries more
pub record TurnsOn (cipher : CipherMeaning) (setup : Setup) (side : Side) (a : Session) (new : EndState) (entries chunk : List Entry) : Type 0 where
  pub session : Session
  pub events : List Event
  pub read : happenings setup chunk ≡ on_side side events
  pub turn : Turns (config_of (sealing_of cipher setup) setup) side a session events
  pub ready : Ready cipher setup side new session (entries ++ chunk)

-- an end that is ready at a moment
pub record ReadyAt (cipher : CipherMeaning) (setup : Setup) (side : Side) (end : EndState) (a : Session) (entries : List Entry) (time : ℕ) : Type 0 where
  pub valid : setup_fault setup ≡ None
  pub late : a.rx.now ≤ time
  pub early : time ≤ LAST_TIME
  pub some : 0 < time
  pub ready : Ready cipher setup side end a entries

-- what comes to an end at a moment brings this, and is right
pub record TakesIn (cipher : CipherMeaning) (setup : Setup) (side : Side) (a : Session) (new : EndState) (entries : List Entry)
    (came : GotEntry) (received : Option Received) : Type 0 where
  pub turns : TurnsOn cipher setup side a new entries (Got came ∷ received_entries side received)
  pub brought : AllByRecursion (IsBroughtBy (sealing_of cipher setup) setup came) (received_entries side received)

-- a tick of an end at a moment seals this, and is right
pub record TicksOn (cipher : CipherMeaning) (setup : Setup) (side : Side) (a : Session) (new : EndState) (entries : List Entry)
    (time : ℕ) (sealed : List Entry) : Type 0 where
  pub turns : TurnsOn cipher setup side a new entries (Ticked side time ∷ sealed)
  pub right : AllByRecursion (IsRightSeal (sealing_of cipher setup) setup) sealed

-- why a tick of an end at a moment is not played, and what is told of it: the tick, and what it seals until it finds no index or
-- no number of repairs left; memory may run out
abbrev pub IsTickCause : CipherMeaning → Setup → Side → Session → ℕ → StepError → List Entry → Type 0
IsTickCause cipher setup side a time Memory told = Unit {0}
IsTickCause cipher setup side a time (Rule fault) told = ⊥
IsTickCause cipher setup side a time Stopped told = ⊥
IsTickCause cipher setup side a time (KeyExhausted by counter) told =
    (by ≡ side) × ((sealed : List Entry) × (told ≡ Ticked side time ∷ sealed)
    × (cut : IsCutTick (sealing_of cipher setup) setup side a time sealed) × LacksNumber counter cut.streams cut.next)
