-- A whole run: two sessions, each with its outgoing and its incoming streams.
use Rattle.std.specs.Prelude.{◌+◌, ◌↔◌, ◌%◌, true, false, length, ◌≡◌, ◌≤◌, ℕ, Bool, not, map, List, [], ◌∷◌, ◌++◌, Option, None}
use Rattle.std.specs.List.{flat_map, fold, list_all}
use Rattle.rtp_base.specs.Widen.{widen16}
use Rattle.repair_core.specs.Fresh.{greatest_of, is_fresh}
use Rattle.rtp_base.specs.declared.kind.Kind.{Kind}
use Rattle.rtp_base.specs.declared.kind.Kind.TheVariants.{Rtp, Rtcp}
use Rattle.rtcp_items.specs.declared.extended.DlrrItem.{DlrrItem as Delay}
use Rattle.rtcp_wire.specs.declared.rtcp_fb.RtcpFb.{RtcpFb}
use Rattle.media_model.specs.declared.entry.Side.{Side}
use Rattle.media_model.specs.declared.entry.Side.TheVariants.{A, B}
use Rattle.media_model.specs.declared.entry.Write.{Write}
use Rattle.media_model.specs.Sides.{peer_of}
use Rattle.run_model.specs.Events.{as_packet, sealed_items, Plain, Event, wrote, ticked, called, got, opened, opened_items, yielded, Types, Outgoing, Incoming}
use Rattle.run_model.specs.Listing.{IsIn, NoRepeat}
use Rattle.run_model.specs.Capping.{IsCapped}
use Rattle.run_model.specs.Sending.{is_some, sendings, sending_of, Answers, AnswersPartly}
use Rattle.run_model.specs.Seals.{Sealing, IsSeal, Reporting, IsReport}
use Rattle.run_model.specs.TxPlay.{new_tx}
use Rattle.run_model.specs.Receiving.{lists, begun_taken, yields, Opens, packets_on}
use Rattle.run_model.specs.RxPlay.{RxRecord, lists_in}
use Rattle.run_model.specs.Asking.{is_other, side_of, asked, modulo, owed, RxSide, RxSetup, new_side, opened_in, ticked_side, trip_after, Feedback, items_in}
use Rattle.run_model.specs.Tables.{Table, has, AreApart, ServesAll, DrainsAll, begun_at, written_to, IsUnused, Hears, nonces}
use Rattle.run_model.specs.Runs.{Happening, events_of, on_side, IsGenuine, RepairsWiden, YieldsWrites, SealsApart, TypesPair}
use Rattle.srtp_core.specs.declared.context.TheConstants.{MAX_DATAGRAM_LEN}

-- the types, after how long a stream is paused, the round trip that an item tells at a moment; and of each side how it seals
-- RTP and RTCP, which SSRCs are its own, the index of its first RTCP datagram, and its outgoing streams
pub record Config : Type 0 where
  pub types : Types
  pub threshold : ℕ
  pub trip : ℕ → Delay → Option ℕ
  pub seals : Side → Sealing
  pub reports : Side → Reporting
  pub owns : Side → ℕ → Bool
  pub first_index : Side → ℕ
  pub outgoing : Side → List Outgoing

-- each outgoing stream of a side is an incoming one of the other; NACK is suppressed where it has no RTX SSRC
abbrev pub incoming_of : Outgoing → Incoming
incoming_of M = record { ssrc = M.ssrc; rtx = M.rtx; suppressed = not (is_some M.rtx) }

-- the stream of SSRC 0, on which probes come: nothing is sent on it in a run
abbrev pub probes : Incoming
probes = record { ssrc = 0; rtx = None; suppressed = true }

abbrev pub setup_of : Config → Side → RxSetup
setup_of C side = record {
  types = C.types;
  threshold = C.threshold;
  owns = C.owns side;
  trip = C.trip;
  streams = probes ∷ map incoming_of (C.outgoing (peer_of side));
}

pub record Session : Type 0 where
  pub tx : Table
  pub rx : RxSide
  pub rtcp : ℕ

abbrev pub new_session : Config → Side → Session
new_session C side = record { tx = map (λ L. (L, new_tx L)) (C.outgoing side); rx = new_side (setup_of C side); rtcp = C.first_index side }

-- the indices of RTCP datagrams that are sealed
abbrev pub index_of : Event → List ℕ
index_of (sealed_items index items) = index ∷ []
index_of _ = []

abbrev pub indices : List Event → List ℕ
indices events = flat_map index_of events

-- they count up from one number to another
abbrev pub Counts : ℕ → List ℕ → ℕ → Type 0
Counts k [] next = k ≡ next
Counts k (i ∷ is) next = (i ≡ k) × Counts (k + 1) is next

-- a step of a side, with the drain after it
pub data Turns (C : Config) (side : Side) (a : Session) : Session → List Event → Type 0 where
  writes : (time : ℕ) (w : Write) → a.rx.now ≤ time → IsUnused w a.tx
      → Turns C side a (record { tx = map (written_to w) a.tx; rx = record (a.rx) { now = time }; rtcp = a.rtcp }) (wrote time w ∷ [])
  ticks : {ys : Table} (time : ℕ) (new : List Event) (next : ℕ) → a.rx.now ≤ time → DrainsAll C.types (C.seals side) time (map (begun_at time) a.tx) ys new
      → Feedback a.rx time a.rx.table (items_in new) → Counts a.rtcp (indices new) next → Turns C side a (record { tx = ys; rx = ticked_side a.rx time; rtcp = next }) (ticked time ∷ new)
  calls : (time : ℕ) (items : List RtcpFb) → a.rx.now ≤ time → list_all is_other items ≡ true
      → Turns C side a (record { tx = a.tx; rx = record (a.rx) { now = time }; rtcp = a.rtcp + 1 }) (called time ∷ sealed_items a.rtcp items ∷ [])
  requests : (time : ℕ) → a.rx.now ≤ time → Turns C side a (record { tx = a.tx; rx = record (a.rx) { now = time }; rtcp = a.rtcp }) (called time ∷ [])
  opens : (time : ℕ) (bytes : List ℕ) (ssrc n : ℕ) (p : Plain) (s : Incoming × RxRecord) → a.rx.now ≤ time → IsIn s a.rx.table
      → Opens C.types s.0 (C.seals (peer_of side)) (lists_in s.1) bytes ssrc n p
      → Turns C side a (record { tx = a.tx; rx = record (a.rx) { now = time; table = map (opened_in (setup_of C side) time ssrc n p) a.rx.table }; rtcp = a.rtcp })
      (got time Rtp bytes ∷ opened ssrc n p ∷ map yielded (yields C.types s.0 (lists_in s.1) ssrc n p))
  hears : {ys : Table} (time : ℕ) (bytes : List ℕ) (index : ℕ) (items : List RtcpFb) → a.rx.now ≤ time → IsReport (C.reports (peer_of side)) bytes index items → Hears items a.tx ys
      → Turns C side a (record { tx = ys; rx = record (a.rx) { now = time; trip = fold (trip_after (setup_of C side) time) a.rx.trip items }; rtcp = a.rtcp })
      (got time Rtcp bytes ∷ opened_items index items ∷ [])
  stays : (time : ℕ) (kind : Kind) (bytes : List ℕ) → a.rx.now ≤ time
      → (kind ≡ Rtp → (s : Incoming × RxRecord) → IsIn s a.rx.table → (ssrc n : ℕ) (p : Plain) → Opens C.types s.0 (C.seals (peer_of side)) (lists_in s.1) bytes ssrc n p → ⊥)
      → (kind ≡ Rtcp → (index : ℕ) (items : List RtcpFb) → IsReport (C.reports (peer_of side)) bytes index items → ⊥)
      → Turns C side a (record { tx = a.tx; rx = record (a.rx) { now = time }; rtcp = a.rtcp }) (got time kind bytes ∷ [])

-- the sessions of A and B after these entries
pub data Played (C : Config) : Session → Session → List Happening → Type 0 where
  begun : Played C (new_session C A) (new_session C B) []
  of_a : {a b c : Session} {entries : List Happening} {new : List Event} → Played C a b entries → Turns C A a c new → Played C c b (entries ++ on_side A new)
  of_b : {a b c : Session} {entries : List Happening} {new : List Event} → Played C a b entries → Turns C B b c new → Played C a c (entries ++ on_side B new)

abbrev pub session_of : Side → Session → Session → Session
session_of A a b = a
session_of B a b = b

-- a tick of a side is cut off after these events, and leaves these streams and this index: feedback and polls left, and maybe
-- not all
pub record CutsOff (C : Config) (side : Side) (a : Session) (time : ℕ) (streams : Table) (next : ℕ) (new : List Event) : Type 0 where
  pub late : a.rx.now ≤ time
  pub serves : ServesAll C.types (C.seals side) time (map (begun_at time) a.tx) streams new
  pub counts : Counts a.rtcp (indices new) next

-- the entries of a run that ends after a step, or within a tick of a side
pub data Ends (C : Config) : List Happening → Type 0 where
  at_step : {a b : Session} {entries : List Happening} → Played C a b entries → Ends C entries
  in_tick : {a b : Session} {entries : List Happening} → Played C a b entries → (side : Side) (time : ℕ) (streams : Table) (next : ℕ) (new : List Event)
      → CutsOff C side (session_of side a b) time streams next new → Ends C (entries ++ on_side side (ticked time ∷ new))

-- a sound configuration: no SSRC of a side is used twice or is 0, seals are of one plain alone, and types pair
pub record IsSound (C : Config) : Type 0 where
  pub apart : (side : Side) → AreApart (C.outgoing side)
  pub nonzero : (side : Side) (M : Outgoing) → IsIn M (C.outgoing side) → has M 0 ≡ false
  pub seals : (side : Side) → SealsApart (C.seals side)
  pub types : TypesPair C.types

-- no two RTP datagrams of a direction share a nonce
abbrev pub RunsRepeatNoNonce : Type 0
RunsRepeatNoNonce = (C : Config) (entries : List Happening) → IsSound C → Ends C entries → (side : Side) → NoRepeat (nonces (events_of side entries))

-- no two RTCP datagrams of a direction share an index
abbrev pub RunsRepeatNoIndex : Type 0
RunsRepeatNoIndex = (C : Config) (entries : List Happening) → Ends C entries → (side : Side) → NoRepeat (indices (events_of side entries))

-- no packet is yielded twice
abbrev pub RunsYieldOnce : Type 0
RunsYieldOnce =
    (C : Config) (a b : Session) (entries : List Happening) → IsSound C → Played C a b entries → (side : Side) (M : Outgoing) → IsIn M (C.outgoing (peer_of side))
    → NoRepeat (map (λ packet. packet.number) (packets_on (incoming_of M) (events_of side entries)))

-- in a genuine run whose repairs widen, what is yielded is a write of the other side
abbrev pub RunsYieldWrites : Type 0
RunsYieldWrites =
    (C : Config) (a b : Session) (entries : List Happening) → IsSound C → Played C a b entries → IsGenuine entries
    → ((side : Side) (M : Outgoing) → IsIn M (C.outgoing (peer_of side)) → RepairsWiden C.types side (incoming_of M) entries)
    → (side : Side) (M : Outgoing) → IsIn M (C.outgoing (peer_of side)) → YieldsWrites side (incoming_of M) entries

-- each tick of a side asks on each incoming stream for exactly the numbers that are due by the entries before
abbrev pub RunsAskTheDue : Type 0
RunsAskTheDue =
    (C : Config) (a b c : Session) (entries : List Happening) (side : Side) (time : ℕ) (new : List Event) → IsSound C → Played C a b entries → Turns C side (session_of side a b) c (ticked time ∷ new)
    → (s : Incoming × RxRecord) → IsIn s (side_of (setup_of C side) (events_of side entries)).table
    → asked s.0.ssrc new ≡ map modulo (owed (side_of (setup_of C side) (events_of side entries)) time s)

-- each tick of a side answers on each outgoing stream
abbrev pub RunsAnswer : Type 0
RunsAnswer =
    (C : Config) (a b c : Session) (entries : List Happening) (side : Side) (time : ℕ) (new : List Event) → IsSound C → Played C a b entries → Turns C side (session_of side a b) c (ticked time ∷ new)
    → (M : Outgoing) → IsIn M (C.outgoing side) → Answers C.types M (IsCapped M (events_of side entries) time) (sendings M.ssrc (events_of side entries)) new

-- each tick of a side that is cut off answers in part
abbrev pub RunsAnswerPartly : Type 0
RunsAnswerPartly =
    (C : Config) (a b : Session) (entries : List Happening) (side : Side) (time : ℕ) (streams : Table) (next : ℕ) (new : List Event) → IsSound C → Played C a b entries
    → CutsOff C side (session_of side a b) time streams next new → (M : Outgoing) → IsIn M (C.outgoing side) → AnswersPartly C.types M (sendings M.ssrc (events_of side entries)) new

-- what can be read of a datagram without its key: SSRC, the low 16 bits of the number, and the type
pub record HeadsApart (seal : Sealing) : Type 0 where
  pub ssrc : (r n s m : ℕ) (p q : Plain) (bytes : List ℕ) → IsSeal seal r n p bytes → IsSeal seal s m q bytes → r ≡ s
  pub low : (r n s m : ℕ) (p q : Plain) (bytes : List ℕ) → IsSeal seal r n p bytes → IsSeal seal s m q bytes → n % 65536 ≡ m % 65536
  pub type : (r n s m : ℕ) (p q : Plain) (bytes : List ℕ) → IsSeal seal r n p bytes → IsSeal seal s m q bytes → p.pt ≡ q.pt

-- a write that the other side sent has a claimed type that is no RTX type, and its datagram is not too long
pub record IsPlainWrite (C : Config) (w : Write) (bytes : List ℕ) : Type 0 where
  pub claimed : C.types.claims w.pt ≡ true
  pub primary : C.types.is_rtx w.pt ≡ false
  pub short : length bytes ≤ MAX_DATAGRAM_LEN

-- what a side yields where the datagram of a write that the other side sent comes: the write exactly where its number widens to
-- itself and is fresh, by the numbers taken, which are first the greatest one seen where there are none
abbrev pub RunsYieldExactly : Type 0
RunsYieldExactly =
    (C : Config) (a b c : Session) (entries : List Happening) (side : Side) (time : ℕ) (bytes : List ℕ) (new : List Event) → IsSound C → HeadsApart (C.seals (peer_of side)) → Played C a b entries
    → Turns C side (session_of side a b) c (got time Rtp bytes ∷ new)
    → (M : Outgoing) → IsIn M (C.outgoing (peer_of side)) → (x : ℕ × Write) → IsIn x (sendings M.ssrc (events_of (peer_of side) entries)).sent → IsPlainWrite C x.1 bytes
    → IsSeal (C.seals (peer_of side)) M.ssrc x.1.number (sending_of x.1) bytes
    → IsIn (yielded (as_packet x.1)) new
    ↔ ((widen16 (greatest_of (begun_taken (lists C.types (incoming_of M) (events_of side entries)))) (x.1.number % 65536) ≡ x.1.number)
    × (is_fresh (begun_taken (lists C.types (incoming_of M) (events_of side entries))) x.1.number ≡ true))
