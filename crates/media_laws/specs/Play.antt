-- What a run brings, step by step.
use Rattle.std.specs.Prelude.{◌≡◌, ◌<◌, ◌≤◌, ◌-◌, ◌^◌, ℕ, Bool, true, false, List, [], ◌∷◌, ◌++◌, slice_get, Some, None}
use Rattle.std.specs.List.{AllByRecursion}
use Rattle.rtp_wire.specs.BytesLaws.{AreWords}
use Rattle.media_model.specs.declared.entry.Side.{Side}
use Rattle.media_model.specs.declared.entry.Side.TheVariants.{A, B}
use Rattle.media_model.specs.declared.entry.Write.{Write as Writing}
use Rattle.media_model.specs.declared.entry.Got.{Got as GotEntry}
use Rattle.media_model.specs.declared.entry.Sealed.{Sealed as SealedEntry}
use Rattle.media_model.specs.declared.entry.Entry.{Entry}
use Rattle.media_model.specs.declared.entry.Entry.TheVariants.{Wrote, Ticked, Called, Got, Sealed, Opened, Yielded}
use Rattle.media_model.specs.declared.step.Act.{Act}
use Rattle.media_model.specs.declared.step.Act.TheVariants.{Write, Tick, Deliver, Foreign, Feedback, Ask, Rate}
use Rattle.media_model.specs.declared.step.Step.{Step}
use Rattle.media_model.specs.declared.setup.Setup.{Setup}
use Rattle.media_model.specs.Sides.{peer_of}
use Rattle.media_model.specs.Entries.{datagrams}
use Rattle.media_model.specs.Steps.{step_at}
use Rattle.media_model.specs.declared.entry.Call.{Call}
use Rattle.media_model.specs.declared.entry.Call.TheVariants as call
use Rattle.run_model.specs.Events.{Event}
use Rattle.run_model.specs.Runs.{on_side}
use Rattle.run_model.specs.Transcripts.{happenings}
use Rattle.run_model.specs.Whole.{Session, new_session, Turns}
use Rattle.media_laws.specs.Config.{config_of}
use Rattle.media_laws.specs.Feedback.{application_packet, IsSealOfPacket}
use Rattle.media_laws.specs.Opening.{Sealing, got_as, IsOpening}
use Rattle.media_laws.specs.Right.{IsRightSeal}
use Rattle.media_laws.specs.Rules.{step_fault}

-- the datagram that an act of a side brings to it after these entries: that of this number, counted from 1, that the other side
-- sealed; or bytes of the act's own
pub data Brings (entries : List Entry) : GotEntry → Act → Type 0 where
  delivered : (side : Side) (time k : ℕ) (s : SealedEntry) → 1 ≤ k
      → slice_get (datagrams (peer_of side) entries) (k - 1) ≡ Some s
      → Brings entries (got_as side time s.kind s.bytes) (Deliver k)
  foreign : (got : GotEntry) → Brings entries got (Foreign got.kind got.bytes)

-- what a datagram brings that came: what it was opened to, if it was, and the packet that is yielded
abbrev pub IsBroughtBy : Sealing → Setup → GotEntry → Entry → Type 0
IsBroughtBy seal setup came (Opened o) = IsOpening seal setup came o
IsBroughtBy seal setup came (Yielded side packet) = Unit {0}
IsBroughtBy seal setup came _ = ⊥

-- an act has an application make this call
abbrev pub IsCall : Call → Act → Type 0
IsCall call.Application (Feedback sender media payload) = Unit {0}
IsCall call.Ask (Ask ssrc kind) = Unit {0}
IsCall call.Remb (Rate ssrc rate) = Unit {0}
IsCall call act = ⊥

-- what it asks for leaves in a later tick
abbrev pub is_request : Call → Bool
is_request call.Application = false
is_request call.Ask = true
is_request call.Remb = true

-- the entries of a step: its own one first, and behind it what it brings
pub data AreEntriesOf (seal : Sealing) (setup : Setup) (entries : List Entry) : Side → Step → List Entry → Type 0 where
  wrote : (side : Side) (time : ℕ) (w : Writing) → w.ssrc < 2 ^ 32 → w.rtp_time < 2 ^ 32 → AreWords w.csrc
      → AreEntriesOf seal setup entries side (step_at side time (Write w)) (Wrote side time w ∷ [])
  ticked : (side : Side) (time : ℕ) (sealed : List Entry) → AllByRecursion (IsRightSeal seal setup) sealed
      → AreEntriesOf seal setup entries side (step_at side time Tick) (Ticked side time ∷ sealed)
  called : (side : Side) (time sender media : ℕ) (payload : List ℕ) (s : SealedEntry)
      → IsSealOfPacket seal setup side entries (application_packet sender media payload) s
      → AreEntriesOf seal setup entries side (step_at side time (Feedback sender media payload))
      (Called side time call.Application ∷ Sealed s ∷ [])
  requested : {act : Act} (side : Side) (time : ℕ) (c : Call) → IsCall c act → is_request c ≡ true
      → AreEntriesOf seal setup entries side (step_at side time act) (Called side time c ∷ [])
  got : {act : Act} (came : GotEntry) (brought : List Entry) → Brings entries came act
      → AllByRecursion (IsBroughtBy seal setup came) brought
      → AreEntriesOf seal setup entries came.side (step_at came.side came.time act) (Got came ∷ brought)

-- a step breaks no rule, and what it brings is, as it is read, a turn of its side's session
pub record Outcome (seal : Sealing) (setup : Setup) (entries : List Entry) (side : Side) (a : Session)
    (step : Step) (c : Session) (new : List Entry) : Type 0 where
  pub valid : step_fault setup entries step ≡ None
  pub are_of : AreEntriesOf seal setup entries side step new
  pub events : List Event
  pub read : happenings setup new ≡ on_side side events
  pub turn : Turns (config_of seal setup) side a c events

-- the sessions of both sides after these steps, each of which breaks no rule, and the entries that they brought
pub data Plays (seal : Sealing) (setup : Setup) : Session → Session → List Step → List Entry → Type 0 where
  begins : Plays seal setup (new_session (config_of seal setup) A) (new_session (config_of seal setup) B) [] []
  by_a : {a b c : Session} {steps : List Step} {entries : List Entry} → Plays seal setup a b steps entries
      → (step : Step) (new : List Entry) → Outcome seal setup entries A a step c new
      → Plays seal setup c b (steps ++ step ∷ []) (entries ++ new)
  by_b : {a b c : Session} {steps : List Step} {entries : List Entry} → Plays seal setup a b steps entries
      → (step : Step) (new : List Entry) → Outcome seal setup entries B b step c new
      → Plays seal setup a c (steps ++ step ∷ []) (entries ++ new)

-- these steps brought these entries
pub record Played (seal : Sealing) (setup : Setup) (steps : List Step) (entries : List Entry) : Type 0 where
  pub a : Session
  pub b : Session
  pub plays : Plays seal setup a b steps entries
