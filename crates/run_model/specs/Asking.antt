-- Which numbers a side asks for, and when, read off its events.
use Rattle.std.specs.Prelude.{◌≡◌, ◌+◌, ◌%◌, ◌==◌, nat_le, ℕ, Bool, true, false, ◌&&◌, if◌then◌else◌, map, List, [], ◌∷◌, ◌++◌, Option, Some, None}
use Rattle.std.specs.List.{flat_map, fold, list_any, list_all}
use Rattle.repair_core.specs.Rounds.{Heard, due, wait_of}
use Rattle.repair_core.specs.Entries.{names}
use Rattle.rtp_base.specs.declared.kind.Kind.TheVariants.{Rtp, Rtcp}
use Rattle.rtp_base.specs.declared.nack_entry.NackEntry.{NackEntry}
use Rattle.rtcp_items.specs.declared.extended.DlrrItem.{DlrrItem as Delay}
use Rattle.rtcp_wire.specs.declared.rtcp_fb.RtcpFb.{RtcpFb}
use Rattle.rtcp_wire.specs.declared.rtcp_fb.RtcpFb.TheVariants.{Nack, DlrrItem}
use Rattle.run_model.specs.Events.{Plain, Event, wrote, ticked, called, got, sealed, sealed_items, opened, opened_items, yielded, Types, Incoming}
use Rattle.run_model.specs.Listing.{IsIn}
use Rattle.run_model.specs.Sending.{named_on}
use Rattle.run_model.specs.Seals.{Sealing}
use Rattle.run_model.specs.TxPlay.{is_sealing}
use Rattle.run_model.specs.Receiving.{concerns, yields, Opens}
use Rattle.run_model.specs.RxPlay.{RxRecord, new_rx, lists_in, rx_opened, rx_ticked, is_enabled}
use Rattle.repair_core.specs.declared.register_nack.TheConstants.{NACK_MIN_INTERVAL}

-- the moment of the last step, the moment of the last round, the round trip, and the incoming streams in order, each with its
-- record
pub record RxSide : Type 0 where
  pub now : ℕ
  pub last_round : ℕ
  pub trip : Option ℕ
  pub table : List (Incoming × RxRecord)

-- what a side is: its types, after how long a stream is paused, which SSRCs are its own, the round trip that an item tells
-- at a moment, and its incoming streams
pub record RxSetup : Type 0 where
  pub types : Types
  pub threshold : ℕ
  pub owns : ℕ → Bool
  pub trip : ℕ → Delay → Option ℕ
  pub streams : List Incoming

abbrev pub new_side : RxSetup → RxSide
new_side S = record { now = 0; last_round = 0; trip = None; table = map (λ L. (L, new_rx)) S.streams }

abbrev pub opened_in : RxSetup → ℕ → ℕ → ℕ → Plain → Incoming × RxRecord → Incoming × RxRecord
opened_in S now ssrc n p s = (s.0, if concerns s.0 ssrc then rx_opened S.types s.0 (now + S.threshold) ssrc n p s.1 else s.1)

-- a tick is a round where some stream is enabled and the last round is at least 33 ms back
abbrev pub any_enabled : List (Incoming × RxRecord) → Bool
any_enabled table = list_any (λ s. is_enabled s.0 s.1) table

abbrev pub is_round : RxSide → ℕ → Bool
is_round side time = any_enabled side.table && nat_le (side.last_round + NACK_MIN_INTERVAL) time

-- how long a number must not have been asked for, where the stream takes part
abbrev pub asks_of : Bool → ℕ → Incoming × RxRecord → Option ℕ
asks_of round wait s = if round && is_enabled s.0 s.1 then Some wait else None

abbrev pub ticked_in : ℕ → Bool → ℕ → Incoming × RxRecord → Incoming × RxRecord
ticked_in time round wait s = (s.0, rx_ticked time (asks_of round wait s) s.1)

abbrev pub ticked_side : RxSide → ℕ → RxSide
ticked_side side time = record side {
  now = time;
  last_round = if is_round side time then time else side.last_round;
  table = map (ticked_in time (is_round side time) (wait_of side.trip)) side.table;
}

-- the round trip is that of the last report that names the side
abbrev pub trip_after : RxSetup → ℕ → Option ℕ → RtcpFb → Option ℕ
trip_after S now trip (DlrrItem d) = if S.owns d.ssrc then S.trip now d else trip
trip_after S now trip _ = trip

abbrev pub side_step : RxSetup → RxSide → Event → RxSide
side_step S side (wrote time w) = record side { now = time }
side_step S side (called time) = record side { now = time }
side_step S side (got time kind bytes) = record side { now = time }
side_step S side (ticked time) = ticked_side side time
side_step S side (opened ssrc n p) = record side { table = map (opened_in S side.now ssrc n p) side.table }
side_step S side (opened_items index items) = record side { trip = fold (trip_after S side.now) side.trip items }
side_step S side (sealed ssrc n p bytes) = side
side_step S side (sealed_items index items) = side
side_step S side (yielded packet) = side

abbrev pub side_of : RxSetup → List Event → RxSide
side_of S events = fold (side_step S) (new_side S) events

-- the numbers that a stream has to ask for, and those that a tick asks for on an SSRC
abbrev pub due_in : Option Heard → ℕ → ℕ → List ℕ
due_in None now wait = []
due_in (Some h) now wait = due h now wait

abbrev pub owed : RxSide → ℕ → Incoming × RxRecord → List ℕ
owed side time s = if is_round side time && is_enabled s.0 s.1 then due_in s.1.numbers time (wait_of side.trip) else []

abbrev pub item_in : Event → List RtcpFb
item_in (sealed_items index items) = items
item_in _ = []

abbrev pub items_in : List Event → List RtcpFb
items_in events = flat_map item_in events

abbrev pub modulo : ℕ → ℕ
modulo n = n % 65536

abbrev pub asked : ℕ → List Event → List ℕ
asked m events = flat_map names (flat_map (named_on m) (items_in events))

-- the feedback of a tick: the streams in order, each with its NACK where it owes one, and items of other kinds anywhere
abbrev pub is_other : RtcpFb → Bool
is_other (Nack media entries) = false
is_other _ = true

abbrev pub IsOther : RtcpFb → Type 0
IsOther item = is_other item ≡ true

pub data Feedback (side : RxSide) (time : ℕ) : List (Incoming × RxRecord) → List RtcpFb → Type 0 where
  none : Feedback side time [] []
  besides : {table : List (Incoming × RxRecord)} {items : List RtcpFb} (item : RtcpFb) → IsOther item → Feedback side time table items → Feedback side time table (item ∷ items)
  asks : {table : List (Incoming × RxRecord)} {items : List RtcpFb} (s : Incoming × RxRecord) (entries : List NackEntry) → flat_map names entries ≡ map modulo (owed side time s)
      → Feedback side time table items → Feedback side time (s ∷ table) (Nack s.0.ssrc entries ∷ items)
  owes_nothing : {table : List (Incoming × RxRecord)} {items : List RtcpFb} (s : Incoming × RxRecord) → owed side time s ≡ [] → Feedback side time table items → Feedback side time (s ∷ table) items

abbrev pub IsUnheard : Event → Type 0
IsUnheard (ticked time) = ⊥
IsUnheard (opened ssrc n p) = ⊥
IsUnheard (opened_items index items) = ⊥
IsUnheard (yielded packet) = ⊥
IsUnheard _ = Unit {0}

pub data RxSideStep (S : RxSetup) (peer : Sealing) (side : RxSide) : RxSide → List Event → Type 0 where
  opens : (time : ℕ) (bytes : List ℕ) (ssrc n : ℕ) (p : Plain) (s : Incoming × RxRecord) → IsIn s side.table → Opens S.types s.0 peer (lists_in s.1) bytes ssrc n p
      → RxSideStep S peer side (record side { now = time; table = map (opened_in S time ssrc n p) side.table })
      (got time Rtp bytes ∷ opened ssrc n p ∷ map yielded (yields S.types s.0 (lists_in s.1) ssrc n p))
  ticks : (time : ℕ) (new : List Event) → list_all is_sealing new ≡ true → Feedback side time side.table (items_in new) → RxSideStep S peer side (ticked_side side time) (ticked time ∷ new)
  hears : (time : ℕ) (bytes : List ℕ) (index : ℕ) (items : List RtcpFb)
      → RxSideStep S peer side (record side { now = time; trip = fold (trip_after S time) side.trip items }) (got time Rtcp bytes ∷ opened_items index items ∷ [])
  calls : (time : ℕ) (index : ℕ) (items : List RtcpFb) → RxSideStep S peer side (record side { now = time }) (called time ∷ sealed_items index items ∷ [])
  passes : (e : Event) → IsUnheard e → RxSideStep S peer side (side_step S side e) (e ∷ [])

pub data RxSidePlays (S : RxSetup) (peer : Sealing) : RxSide → List Event → Type 0 where
  begun : RxSidePlays S peer (new_side S) []
  step : {a b : RxSide} {events new : List Event} → RxSidePlays S peer a events → RxSideStep S peer a b new → RxSidePlays S peer b (events ++ new)

-- no main SSRC is that of two streams
abbrev pub NoneHas : ℕ → List Incoming → Type 0
NoneHas m [] = Unit {0}
NoneHas m (L ∷ Ls) = ((L.ssrc == m) ≡ false) × NoneHas m Ls

abbrev pub MainsApart : List Incoming → Type 0
MainsApart [] = Unit {0}
MainsApart (L ∷ Ls) = NoneHas L.ssrc Ls × MainsApart Ls

-- each tick asks on each stream for exactly the numbers that are due by the events before, modulo 2^16: all of them in a round
-- in which the stream takes part, and else none
abbrev pub RoundsAskTheDue : Type 0
RoundsAskTheDue =
    (S : RxSetup) (peer : Sealing) (a b : RxSide) (events : List Event) (time : ℕ) (new : List Event) → MainsApart S.streams → RxSidePlays S peer a events
    → RxSideStep S peer a b (ticked time ∷ new) → (s : Incoming × RxRecord) → IsIn s (side_of S events).table → asked s.0.ssrc new ≡ map modulo (owed (side_of S events) time s)
