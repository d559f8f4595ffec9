-- Which writes of a stream were sent, and what repairs carry of them.
use Rattle.std.specs.Prelude.{◌≡◌, ◌<◌, ℕ, Bool, true, false, ◌&&◌, ◌==◌, nat_eq, nat_lt, if◌then◌else◌, List, Option, Some, None}
use Rattle.std.specs.List.{list_any}
use mathlib.Core.Bool.{beq}
use Rattle.std.specs.Str.{bytes_eq}
use Rattle.std.specs.HashMap.{get}
use Rattle.media_model.specs.declared.entry.Write.{Write}
use Rattle.media_model.specs.declared.entry.Sealed.{Sealed}
use Rattle.rtp_base.specs.Kind.{same_kind}
use Rattle.rtp_base.specs.declared.kind.Kind.TheVariants.{Rtp}
use Rattle.media_model.specs.Sides.{peer_of}
use Rattle.run_model.specs.Events.{Types}
use Rattle.run_model.specs.Runs.{Happening, events_of}
use Rattle.run_model.specs.Sending.{Sendings, sendings, is_sending}
use Rattle.run_model.specs.Transcripts.{is_type, plain_in}
use Rattle.run_widens.specs.declared.sent.Carried.{Carried}
use Rattle.run_widens.specs.declared.sent.Sent.{Sent}
use Rattle.run_widens.specs.declared.line.Line.{Line}
use Rattle.run_widens.specs.Lines.{types_in}

-- what repairs of a type carry of a write
pub record IsKey (k : Carried) (w : Write) (pt : ℕ) : Type 0 where
  pub number : k.number ≡ w.number
  pub type : k.pt ≡ pt
  pub marker : k.marker ≡ w.marker
  pub time : k.time ≡ w.rtp_time
  pub csrc : k.csrc.now ≡ w.csrc
  pub payload : k.payload.now ≡ w.payload

abbrev pub same_carried : Carried → Carried → Bool
same_carried a b =
    (a.number == b.number) && ((a.pt == b.pt) && (beq a.marker b.marker && ((a.time == b.time) && (bytes_eq a.csrc.now b.csrc.now && bytes_eq a.payload.now b.payload.now))))

-- a repair of this write carries it
abbrev pub carried_by : Types → Carried → Write → Bool
carried_by T k w =
    (w.number == k.number) && (is_type k.pt (T.rtx_of w.pt) && (beq w.marker k.marker && ((w.rtp_time == k.time) && (bytes_eq w.csrc k.csrc.now && bytes_eq w.payload k.payload.now))))

abbrev pub first_of : Sent → Carried → Option ℕ
first_of sent k = get same_carried sent.first k

abbrev pub last_of : Sent → ℕ → Option ℕ
last_of sent n = get nat_eq sent.last n

-- whether a place is there, and one behind it
abbrev pub is_before : Option ℕ → Option ℕ → Bool
is_before None last = false
is_before (Some a) None = false
is_before (Some a) (Some b) = nat_lt a b

-- the place of the first, once one more stands at a place
abbrev pub or_at : Option ℕ → ℕ → Option ℕ
or_at None at = Some at
or_at (Some a) at = Some a

-- what is at k once a place was put in at a key that has none
abbrev pub put_at : ℕ → Carried → Carried → Option ℕ → Option ℕ
put_at at key k first = if same_carried key k then or_at first at else first

-- whether a seal is that of a first sending
abbrev pub is_first : Line → Sealed → Bool
is_first line s = same_kind s.kind Rtp && is_sending line.ssrc s.ssrc (plain_in line.exts.now s.plain)

abbrev pub IsBelow : Option ℕ → ℕ → Type 0
IsBelow None at = Unit {0}
IsBelow (Some a) at = a < at

abbrev pub any_sent : Types → Carried → List (ℕ × Write) → Bool
any_sent T k sent = list_any (λ x. carried_by T k x.1) sent

-- the places of a write that a repair carries and of the last sending under its number, among so many entries, and the sendings
pub record Stands (T : Types) (k : Carried) (s : Sendings) (first last : Option ℕ) (at : ℕ) : Type 0 where
  pub first_below : IsBelow first at
  pub last_below : IsBelow last at
  pub sent : any_sent T k s.sent ≡ is_before first last
  pub never : first ≡ None → list_any (carried_by T k) s.waiting ≡ false
  pub waits : (a : ℕ) → first ≡ Some a → is_before first last ≡ false → list_any (carried_by T k) s.waiting ≡ true

-- what was sent on a line among these happenings
abbrev pub sendings_on : Line → List Happening → Sendings
sendings_on line past = sendings line.ssrc (events_of (peer_of line.side) past)

-- the maps stand for what was sent among so many entries
abbrev pub Holds : Line → Sent → ℕ → List Happening → Type 0
Holds line sent at past = (k : Carried) → Stands (types_in line) k (sendings_on line past) (first_of sent k) (last_of sent k.number) at
