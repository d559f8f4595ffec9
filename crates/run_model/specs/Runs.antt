-- Runs of two sides: a stream that one side sends and the other receives.
use Rattle.std.specs.Prelude.{◌≡◌, ℕ, true, cond, map, List, [], ◌∷◌, ◌++◌, Some}
use Rattle.std.specs.List.{flat_map}
use Rattle.media_model.specs.declared.entry.Side.{Side}
use Rattle.media_model.specs.declared.entry.Write.{Write}
use Rattle.media_model.specs.Sides.{peer_of, same_side}
use Rattle.run_model.specs.Events.{as_packet, Plain, Event, got, sealed, opened, yielded, Types, Outgoing, Incoming}
use Rattle.run_model.specs.Listing.{IsIn}
use Rattle.run_model.specs.Sending.{sendings, writes_on, Carries}
use Rattle.run_model.specs.Seals.{Sealing, IsSeal}
use Rattle.run_model.specs.TxPlay.{IsApart, TxRecord, new_tx, TxStep}
use Rattle.run_model.specs.Receiving.{cut, concerns, is_repair, lists, restored}
use Rattle.run_model.specs.RxPlay.{RxRecord, new_rx, RxStep}

-- what happened in a run: events of its sides
abbrev pub Happening : Type 0
Happening = Side × Event

abbrev pub event_of : Side → Happening → List Event
event_of side happening = cond (same_side side happening.0) (happening.1 ∷ []) []

abbrev pub events_of : Side → List Happening → List Event
events_of side entries = flat_map (event_of side) entries

abbrev pub on_side : Side → List Event → List Happening
on_side side events = map (λ e. (side, e)) events

-- P holds of each entry, with the entries before it
abbrev pub EachFrom : (List Happening → Happening → Type 0) → List Happening → List Happening → Type 0
EachFrom P past [] = Unit {0}
EachFrom P past (entry ∷ entries) = P past entry × EachFrom P (past ++ entry ∷ []) entries

abbrev pub Each : (List Happening → Happening → Type 0) → List Happening → Type 0
Each P entries = EachFrom P [] entries

-- the bytes that came last among the events of a side
abbrev pub last_got : List ℕ → List Event → List ℕ
last_got bytes [] = bytes
last_got bytes (got time kind new ∷ events) = last_got new events
last_got bytes (e ∷ events) = last_got bytes events

-- what is opened was sealed by the other side, to the bytes that came last
abbrev pub IsGenuineAt : List Happening → Happening → Type 0
IsGenuineAt past (side, opened ssrc n p) = (q : Plain) × IsIn (peer_of side, sealed ssrc n q (last_got [] (events_of side past))) past
IsGenuineAt past (side, e) = Unit {0}

abbrev pub IsGenuine : List Happening → Type 0
IsGenuine entries = Each IsGenuineAt entries

-- the plain datagram with its padding cut
abbrev pub without_padding : Plain → Plain
without_padding p = record p { payload = cut p }

-- a repair that is opened on a stream and restores a number carries the write on the stream that the other side sent under it
abbrev pub WidensAt : Types → Side → Incoming → List Happening → Happening → Type 0
WidensAt T side L past (s, opened ssrc n p) =
    s ≡ side → concerns L ssrc ≡ true → is_repair T L ssrc p ≡ true → (q : ℕ) → restored L (lists T L (events_of side past)) ssrc n p ≡ Some q
    → (x : ℕ × Write) × IsIn x (sendings L.ssrc (events_of (peer_of side) past)).sent × (x.1.number ≡ q) × Carries T (without_padding p) x.1
WidensAt T side L past (s, e) = Unit {0}

abbrev pub RepairsWiden : Types → Side → Incoming → List Happening → Type 0
RepairsWiden T side L entries = Each (WidensAt T side L) entries

-- a packet that is yielded is an earlier write of the other side
abbrev pub IsOwedAt : Side → Incoming → List Happening → Happening → Type 0
IsOwedAt side L past (s, yielded packet) = s ≡ side → packet.ssrc ≡ L.ssrc → (w : Write) × IsIn w (writes_on L.ssrc (events_of (peer_of side) past)) × (packet ≡ as_packet w)
IsOwedAt side L past (s, e) = Unit {0}

abbrev pub YieldsWrites : Side → Incoming → List Happening → Type 0
YieldsWrites side L entries = Each (IsOwedAt side L) entries

-- The run as the two records of one stream see it: that of the side that receives it, and that of the other, which sends it. Each
-- step is of one of the sides.
pub data Runs (T : Types) (seal : Sealing) (threshold : ℕ) (side : Side) (M : Outgoing) (L : Incoming) : TxRecord → RxRecord → List Happening → Type 0 where
  begun : Runs T seal threshold side M L (new_tx M) new_rx []
  sends : {t u : TxRecord} {x : RxRecord} {entries : List Happening} {new : List Event} → Runs T seal threshold side M L t x entries
      → TxStep T M seal (sendings M.ssrc (events_of (peer_of side) entries)).now t u new → Runs T seal threshold side M L u x (entries ++ on_side (peer_of side) new)
  receives : {t : TxRecord} {x y : RxRecord} {entries : List Happening} {new : List Event} → Runs T seal threshold side M L t x entries
      → RxStep T L seal threshold x y new → Runs T seal threshold side M L t y (entries ++ on_side side new)

-- a datagram is the seal of one plain alone; each RTX type is claimed by the line of its primary type
abbrev pub SealsApart : Sealing → Type 0
SealsApart seal = (ssrc n : ℕ) (p q : Plain) (bytes : List ℕ) → IsSeal seal ssrc n p bytes → IsSeal seal ssrc n q bytes → p ≡ q

abbrev pub TypesPair : Types → Type 0
TypesPair T = (pt rtx : ℕ) → T.rtx_of pt ≡ Some rtx → T.primary_of rtx ≡ pt

-- in a genuine run whose repairs widen each packet that a stream yields is a write of the other side
abbrev pub StreamsYieldWrites : Type 0
StreamsYieldWrites =
    (T : Types) (seal : Sealing) (threshold : ℕ) (side : Side) (M : Outgoing) (L : Incoming) (t : TxRecord) (x : RxRecord) (entries : List Happening) → SealsApart seal → TypesPair T
    → M.ssrc ≡ L.ssrc → IsApart M → Runs T seal threshold side M L t x entries → IsGenuine entries → RepairsWiden T side L entries → YieldsWrites side L entries
