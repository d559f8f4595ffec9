-- The record of an outgoing stream, and how each call changes it.
use Rattle.std.specs.Prelude.{length, ◌≡◌, ◌⊎◌, ◌≤◌, ◌+◌, ℕ, Bool, true, false, ◌||◌, ◌==◌, min, filter, List, [], ◌∷◌, ◌++◌, Some, None}
use Rattle.std.specs.List.{flat_map, list_all}
use Rattle.resend_core.specs.ResendStore.{Event as Stored, pushed, evicted, Past, MustStore, HeldAs, last_position}
use Rattle.resend_core.specs.declared.rtx_cache.TheConstants.{INITIAL_CACHE_PACKETS}
use Rattle.rtp_base.specs.declared.kind.Kind.TheVariants.{Rtcp}
use Rattle.rtcp_wire.specs.declared.rtcp_fb.RtcpFb.{RtcpFb}
use Rattle.media_model.specs.declared.entry.Write.{Write}
use Rattle.run_model.specs.Events.{Event, wrote, ticked, called, got, sealed, sealed_items, opened, opened_items, yielded, Types, Outgoing}
use Rattle.run_model.specs.Listing.{IsIn}
use Rattle.run_model.specs.Capping.{Reading, reading_after, reading_for}
use Rattle.run_model.specs.Seals.{Sealing, IsSeal}
use Rattle.run_model.specs.Sending.{is_cached, sendings, named_on, wanted, sending_of, repair_of}
use Rattle.rtp_base.specs.Window.{is_just}

-- the numbers that were written, the packets that wait, what happened to the store of sent packets, the numbers to resend,
-- the number of the next repair, the bytes of what was sent and resent, each with its moment, and the last reading of the cap
pub record TxRecord : Type 0 where
  pub written : List ℕ
  pub queue : List Write
  pub store : List (Stored Write)
  pub resends : List ℕ
  pub next_rtx : ℕ
  pub sent : List (ℕ × ℕ)
  pub resent : List (ℕ × ℕ)
  pub reading : Reading

abbrev pub new_tx : Outgoing → TxRecord
new_tx L = record { written = []; queue = []; store = []; resends = []; next_rtx = L.start; sent = []; resent = []; reading = record { moment = 0; met = false } }

-- a store for so many packets, with room for ten of them at first
abbrev pub past_of : Outgoing → List (Stored Write) → Past Write
past_of L events = record { initial = min L.packets INITIAL_CACHE_PACKETS; age = L.age; greatest = L.packets; events = events }

abbrev pub after_write : Write → TxRecord → TxRecord
after_write w t = record t { written = t.written ++ w.number ∷ []; queue = t.queue ++ w ∷ [] }

-- a tick begins: the cap is read
abbrev pub begun_tick : Outgoing → ℕ → TxRecord → TxRecord
begun_tick L now t = record t { reading = reading_for t.resends t.reading (reading_after L.cap t.sent t.resent t.reading now) }

-- what the store was told of a packet that was sent
pub data Caches (T : Types) (L : Outgoing) (now : ℕ) (w : Write) (events : List (Stored Write)) : List (Stored Write) → Type 0 where
  ignored : is_cached T L w ≡ false → Caches T L now w events events
  stored : is_cached T L w ≡ true → (held : Bool) → (MustStore (past_of L events) w.number now → held ≡ true)
      → Caches T L now w events (events ++ pushed w.number now w held ∷ evicted now ∷ [])

-- one poll of a stream in a tick at a moment: a resend goes without a datagram where the store does not hold it; where the cap
-- was met at the last reading, all resends may go; what waits is sent once there are none
pub data Polls (T : Types) (L : Outgoing) (seal : Sealing) (now : ℕ) (t : TxRecord) : TxRecord → List Event → Type 0 where
  drops : t.reading.met ≡ true → Polls T L seal now t (record t { resends = [] }) []
  misses : (n : ℕ) (rest : List ℕ) → t.resends ≡ n ∷ rest → HeldAs (past_of L t.store) n None → Polls T L seal now t (record t { resends = rest }) []
  resends : (n : ℕ) (rest : List ℕ) (w : Write) (x pt : ℕ) (bytes : List ℕ) → t.resends ≡ n ∷ rest → HeldAs (past_of L t.store) n (Some w) → L.rtx ≡ Some x → T.rtx_of w.pt ≡ Some pt
      → IsSeal seal x t.next_rtx (repair_of pt w) bytes
      → Polls T L seal now t (record t { resends = rest; next_rtx = t.next_rtx + 1; resent = t.resent ++ (now, length w.payload) ∷ [] }) (sealed x t.next_rtx (repair_of pt w) bytes ∷ [])
  sends : (w : Write) (rest : List Write) (store : List (Stored Write)) (bytes : List ℕ) → t.resends ≡ [] → t.queue ≡ w ∷ rest → Caches T L now w t.store store
      → IsSeal seal L.ssrc w.number (sending_of w) bytes
      → Polls T L seal now t (record t { queue = rest; store = store; sent = t.sent ++ (now, length w.payload) ∷ [] }) (sealed L.ssrc w.number (sending_of w) bytes ∷ [])

-- polls of a stream in a tick, one after another
pub data Serves (T : Types) (L : Outgoing) (seal : Sealing) (now : ℕ) : TxRecord → TxRecord → List Event → Type 0 where
  rests : {t : TxRecord} → Serves T L seal now t t []
  polls : {t u v : TxRecord} {events more : List Event} → Polls T L seal now t u events → Serves T L seal now u v more → Serves T L seal now t v (events ++ more)

-- what a tick takes out of a stream: polls, until nothing is left
pub record Drains (T : Types) (L : Outgoing) (seal : Sealing) (now : ℕ) (t u : TxRecord) (events : List Event) : Type 0 where
  pub serves : Serves T L seal now t u events
  pub no_resends : u.resends ≡ []
  pub no_queue : u.queue ≡ []

-- a number is asked for that the store holds, and the cap was not met at the last reading: its repair is due
pub record IsDue (L : Outgoing) (t : TxRecord) : Type 0 where
  pub number : ℕ
  pub rest : List ℕ
  pub write : Write
  pub asked : t.resends ≡ number ∷ rest
  pub held : HeldAs (past_of L t.store) number (Some write)
  pub uncapped : (L.cap ≡ None) ⊎ (t.reading.met ≡ false)

-- of the numbers wanted those are queued that are held
pub data Queues (past : Past Write) : List ℕ → List ℕ → Type 0 where
  none : Queues past [] []
  held : {ns qs : List ℕ} (n : ℕ) (w : Write) → HeldAs past n (Some w) → Queues past ns qs → Queues past (n ∷ ns) (n ∷ qs)
  missing : {ns qs : List ℕ} (n : ℕ) → HeldAs past n None → Queues past ns qs → Queues past (n ∷ ns) qs

-- the datagrams of a drain that are this stream's
abbrev pub is_of : Outgoing → Event → Bool
is_of L (sealed ssrc n p bytes) = (ssrc == L.ssrc) || is_just ssrc L.rtx
is_of L _ = false

abbrev pub is_sealing : Event → Bool
is_sealing (sealed ssrc n p bytes) = true
is_sealing (sealed_items index items) = true
is_sealing _ = false

-- a tick: of what the side seals then the stream's share is a drain
pub record IsTick (T : Types) (L : Outgoing) (seal : Sealing) (time : ℕ) (t u : TxRecord) (new : List Event) : Type 0 where
  pub share : List Event
  pub drain : Drains T L seal time (begun_tick L time t) u share
  pub own : filter (is_of L) new ≡ share
  pub sealings : list_all is_sealing new ≡ true

-- a tick that is cut off before nothing is left: the stream's share is polls
pub record IsCutTick (T : Types) (L : Outgoing) (seal : Sealing) (time : ℕ) (t u : TxRecord) (new : List Event) : Type 0 where
  pub share : List Event
  pub serves : Serves T L seal time (begun_tick L time t) u share
  pub own : filter (is_of L) new ≡ share
  pub sealings : list_all is_sealing new ≡ true

-- the RTX SSRC of a stream is another than the main one
abbrev pub IsApart : Outgoing → Type 0
IsApart L = is_just L.ssrc L.rtx ≡ false

-- an event that does not concern the stream; a tick and what it seals do
abbrev pub IsBeside : Outgoing → ℕ → Event → Type 0
IsBeside L now (wrote time w) = (now ≤ time) × ((w.ssrc == L.ssrc) ≡ false)
IsBeside L now (called time) = now ≤ time
IsBeside L now (got time kind bytes) = now ≤ time
IsBeside L now (sealed_items index items) = Unit {0}
IsBeside L now (opened ssrc n p) = Unit {0}
IsBeside L now (yielded packet) = Unit {0}
IsBeside L now (ticked time) = ⊥
IsBeside L now (sealed ssrc n p bytes) = ⊥
IsBeside L now (opened_items index items) = ⊥

-- the moment of the last step
abbrev pub clock_step : ℕ → Event → ℕ
clock_step now (wrote time w) = time
clock_step now (ticked time) = time
clock_step now (called time) = time
clock_step now (got time kind bytes) = time
clock_step now _ = now

abbrev pub AreBeside : Outgoing → ℕ → List Event → Type 0
AreBeside L now [] = Unit {0}
AreBeside L now (e ∷ events) = IsBeside L now e × AreBeside L (clock_step now e) events

-- how a step of a side, which comes at or after a moment and brings these events, changes the record of one of its outgoing streams
pub data TxStep (T : Types) (L : Outgoing) (seal : Sealing) (now : ℕ) (t : TxRecord) : TxRecord → List Event → Type 0 where
  writes : (time : ℕ) (w : Write) → w.ssrc ≡ L.ssrc → (IsIn w.number t.written → ⊥) → now ≤ time → TxStep T L seal now t (after_write w t) (wrote time w ∷ [])
  ticks : {u : TxRecord} (time : ℕ) (new : List Event) → now ≤ time → IsTick T L seal time t u new → TxStep T L seal now t u (ticked time ∷ new)
  hears : (time : ℕ) (bytes : List ℕ) (index : ℕ) (items : List RtcpFb) (queued : List ℕ) → now ≤ time
      → Queues (past_of L t.store) (wanted (last_position t.store) (flat_map (named_on L.ssrc) items)) queued
      → TxStep T L seal now t (record t { resends = t.resends ++ queued }) (got time Rtcp bytes ∷ opened_items index items ∷ [])
  passes : (new : List Event) → AreBeside L now new → TxStep T L seal now t t new

-- these events of a side made the record of one of its outgoing streams
pub data TxPlays (T : Types) (L : Outgoing) (seal : Sealing) : TxRecord → List Event → Type 0 where
  begun : TxPlays T L seal (new_tx L) []
  step : {t u : TxRecord} {events new : List Event} → TxPlays T L seal t events → TxStep T L seal (sendings L.ssrc events).now t u new → TxPlays T L seal u (events ++ new)

-- the same, or these and a tick that is cut off
pub data TxEnds (T : Types) (L : Outgoing) (seal : Sealing) : TxRecord → List Event → Type 0 where
  at_step : {t : TxRecord} {events : List Event} → TxPlays T L seal t events → TxEnds T L seal t events
  in_tick : {t u : TxRecord} {events : List Event} → TxPlays T L seal t events → (time : ℕ) (new : List Event) → (sendings L.ssrc events).now ≤ time
      → IsCutTick T L seal time t u new → TxEnds T L seal u (events ++ ticked time ∷ new)
