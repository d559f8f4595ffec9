-- When a step has a side seal a datagram behind the last number of a key, and what is told of the step.
use Rattle.std.specs.Prelude.{◌≡◌, ◌+◌, ℕ, List, [], ◌∷◌, length, Some}
use Rattle.std.specs.List.{AllByRecursion}
use Rattle.media_model.specs.declared.entry.Side.{Side}
use Rattle.media_model.specs.declared.entry.Call.TheVariants as call
use Rattle.media_model.specs.declared.entry.Entry.{Entry}
use Rattle.media_model.specs.declared.entry.Entry.TheVariants.{Called, Ticked}
use Rattle.media_model.specs.declared.step.Act.{Act}
use Rattle.media_model.specs.declared.step.Act.TheVariants.{Feedback, Tick}
use Rattle.media_model.specs.declared.step.Step.{Step}
use Rattle.media_model.specs.declared.setup.Setup.{Setup}
use Rattle.media_model.specs.Entries.{sealed_numbers}
use Rattle.run_model.specs.Events.{Event, Outgoing}
use Rattle.run_model.specs.Listing.{IsIn}
use Rattle.run_model.specs.Runs.{on_side}
use Rattle.run_model.specs.Tables.{Table, IsUsedUpIn}
use Rattle.run_model.specs.Transcripts.{happenings, outgoing_of}
use Rattle.run_model.specs.Whole.{Session, session_of, CutsOff}
use Rattle.media_laws.specs.declared.counter.Counter.{Counter}
use Rattle.media_laws.specs.declared.counter.Counter.TheVariants.{Rtcp, Rtx}
use Rattle.media_laws.specs.Config.{config_of}
use Rattle.media_laws.specs.Feedback.{next_index}
use Rattle.media_laws.specs.Opening.{Sealing}
use Rattle.media_laws.specs.Play.{Plays}
use Rattle.media_laws.specs.Right.{IsRightSeal}
use Rattle.rtp_base.specs.declared.number.TheConstants.{NUMBER_LIMIT}
use Rattle.srtp_core.specs.declared.context.TheConstants.{SRTCP_INDEX_LIMIT}

-- a tick of a plain session of a side is cut off: what is sealed before is right and, as it is read, what leaves until then; these
-- streams and this index are left
pub record IsCutTick (seal : Sealing) (setup : Setup) (side : Side) (a : Session) (time : ℕ) (sealed : List Entry) : Type 0 where
  pub right : AllByRecursion (IsRightSeal seal setup) sealed
  pub new : List Event
  pub read : happenings setup sealed ≡ on_side side new
  pub streams : Table
  pub next : ℕ
  pub cut : CutsOff (config_of seal setup) side a time streams next new

-- no index is left, or a stream has no number left for a repair that is due
abbrev pub LacksNumber : Counter → Table → ℕ → Type 0
LacksNumber Rtcp streams next = next ≡ SRTCP_INDEX_LIMIT
LacksNumber (Rtx ssrc) streams next = IsUsedUpIn ssrc streams

-- after these entries an act has a side, whose plain session this is, seal a datagram behind the last number of this counter, and
-- this is told of it: the call of an application; or the tick, with all that it seals until then
abbrev pub ActExhausts : Sealing → Setup → List Entry → Side → Session → ℕ → Act → Counter → List Entry → Type 0
ActExhausts seal setup past side a time (Feedback sender media payload) counter told =
    (counter ≡ Rtcp) × (next_index setup side past ≡ SRTCP_INDEX_LIMIT) × (told ≡ Called side time call.Application ∷ [])
ActExhausts seal setup past side a time Tick counter told =
    (sealed : List Entry) × (told ≡ Ticked side time ∷ sealed)
    × (cut : IsCutTick seal setup side a time sealed) × LacksNumber counter cut.streams cut.next
ActExhausts seal setup past side a time act counter told = ⊥

-- the same of a step: the side is its own, and the plain session is the side's after steps that brought these entries
abbrev pub Exhausts : Sealing → Setup → List Entry → Step → Side → Counter → List Entry → Type 0
Exhausts seal setup past step side counter told =
    (step.side ≡ side) × (a : Session) × (b : Session) × (steps : List Step) × Plays seal setup a b steps past
    × ActExhausts seal setup past side (session_of side a b) step.time step.act counter told

-- after these entries a side has no number of this counter left: it sealed all from the first one of the setup on
abbrev pub IsUsedUp : Setup → Side → Counter → List Entry → Type 0
IsUsedUp setup side Rtcp entries = next_index setup side entries ≡ SRTCP_INDEX_LIMIT
IsUsedUp setup side (Rtx ssrc) entries =
    (L : Outgoing) × IsIn L (outgoing_of side setup) × (L.rtx ≡ Some ssrc) × (L.start + length (sealed_numbers side ssrc entries) ≡ NUMBER_LIMIT)
