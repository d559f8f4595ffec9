-- All outgoing streams of a side.
use Rattle.std.specs.Prelude.{◌≡◌, ◌≤◌, ℕ, Bool, true, false, ◌||◌, ◌==◌, if◌then◌else◌, map, List, [], ◌∷◌, ◌++◌, Some}
use Rattle.std.specs.List.{flat_map, fold}
use Rattle.resend_core.specs.ResendStore.{last_position}
use Rattle.rtp_base.specs.declared.kind.Kind.TheVariants.{Rtcp}
use Rattle.rtcp_wire.specs.declared.rtcp_fb.RtcpFb.{RtcpFb}
use Rattle.media_model.specs.declared.entry.Write.{Write}
use Rattle.run_model.specs.Events.{Event, wrote, ticked, called, got, sealed, sealed_items, opened, opened_items, yielded, Types, Outgoing}
use Rattle.run_model.specs.Listing.{IsIn, NoRepeat}
use Rattle.run_model.specs.Sending.{named_on, wanted}
use Rattle.run_model.specs.Seals.{Sealing}
use Rattle.run_model.specs.TxPlay.{TxRecord, IsDue, new_tx, after_write, past_of, Polls, Queues, IsApart, clock_step, begun_tick}
use Rattle.rtp_base.specs.Window.{is_just}
use Rattle.rtp_base.specs.declared.number.TheConstants.{NUMBER_LIMIT}

-- the streams in order, each with its record
abbrev pub Table : Type 0
Table = List (Outgoing × TxRecord)

abbrev pub lines : Table → List Outgoing
lines table = map (λ s. s.0) table

-- the moment of the last step
abbrev pub clock : List Event → ℕ
clock events = fold clock_step 0 events

-- no SSRC is of two streams, nor twice of one
abbrev pub has : Outgoing → ℕ → Bool
has L ssrc = (ssrc == L.ssrc) || is_just ssrc L.rtx

abbrev pub AllStrange : Outgoing → List Outgoing → Type 0
AllStrange L [] = Unit {0}
AllStrange L (M ∷ Ms) = ((ssrc : ℕ) → has L ssrc ≡ true → has M ssrc ≡ false) × AllStrange L Ms

abbrev pub AreApart : List Outgoing → Type 0
AreApart [] = Unit {0}
AreApart (L ∷ Ls) = IsApart L × (AllStrange L Ls × AreApart Ls)

-- one of these streams has no number left for a repair that is due, under this SSRC
abbrev pub IsUsedUpIn : ℕ → Table → Type 0
IsUsedUpIn ssrc streams = (s : Outgoing × TxRecord) × IsIn s streams × (s.0.rtx ≡ Some ssrc) × (s.1.next_rtx ≡ NUMBER_LIMIT) × IsDue s.0 s.1

-- a poll of one of the streams, whichever the pacer chooses
pub data PollsOne (T : Types) (seal : Sealing) (now : ℕ) : Table → Table → List Event → Type 0 where
  here : {rest : Table} {t u : TxRecord} {events : List Event} (L : Outgoing) → Polls T L seal now t u events → PollsOne T seal now ((L, t) ∷ rest) ((L, u) ∷ rest) events
  there : {xs ys : Table} {events : List Event} (s : Outgoing × TxRecord) → PollsOne T seal now xs ys events → PollsOne T seal now (s ∷ xs) (s ∷ ys) events

abbrev pub AreIdle : Table → Type 0
AreIdle [] = Unit {0}
AreIdle (s ∷ rest) = (s.1.resends ≡ []) × ((s.1.queue ≡ []) × AreIdle rest)

-- what leaves a side in a tick: RTCP, and one poll of some stream after another
pub data ServesAll (T : Types) (seal : Sealing) (now : ℕ) : Table → Table → List Event → Type 0 where
  rests : {xs : Table} → ServesAll T seal now xs xs []
  reports : {xs ys : Table} {events : List Event} (index : ℕ) (items : List RtcpFb) → ServesAll T seal now xs ys events → ServesAll T seal now xs ys (sealed_items index items ∷ events)
  more : {xs ys zs : Table} {events rest : List Event} → PollsOne T seal now xs ys events → ServesAll T seal now ys zs rest → ServesAll T seal now xs zs (events ++ rest)

-- what a tick takes out of a side: all of that, until nothing is left
pub record DrainsAll (T : Types) (seal : Sealing) (now : ℕ) (xs ys : Table) (events : List Event) : Type 0 where
  pub serves : ServesAll T seal now xs ys events
  pub idle : AreIdle ys

-- a tick begins for each stream
abbrev pub begun_at : ℕ → Outgoing × TxRecord → Outgoing × TxRecord
begun_at time s = (s.0, begun_tick s.0 time s.1)

-- a write goes to the stream of its SSRC
abbrev pub written_to : Write → Outgoing × TxRecord → Outgoing × TxRecord
written_to w s = (s.0, if w.ssrc == s.0.ssrc then after_write w s.1 else s.1)

abbrev pub IsUnused : Write → Table → Type 0
IsUnused w [] = Unit {0}
IsUnused w (s ∷ rest) = (w.ssrc ≡ s.0.ssrc → IsIn w.number s.1.written → ⊥) × IsUnused w rest

-- each stream takes the NACKs on it
pub data Hears (items : List RtcpFb) : Table → Table → Type 0 where
  none : Hears items [] []
  one : {xs ys : Table} (L : Outgoing) (t : TxRecord) (queued : List ℕ) → Queues (past_of L t.store) (wanted (last_position t.store) (flat_map (named_on L.ssrc) items)) queued
      → Hears items xs ys → Hears items ((L, t) ∷ xs) ((L, record t { resends = t.resends ++ queued }) ∷ ys)

-- an event that concerns no outgoing stream
abbrev pub IsElsewhere : ℕ → Event → Type 0
IsElsewhere now (called time) = now ≤ time
IsElsewhere now (got time kind bytes) = now ≤ time
IsElsewhere now (sealed_items index items) = Unit {0}
IsElsewhere now (opened ssrc n p) = Unit {0}
IsElsewhere now (yielded packet) = Unit {0}
IsElsewhere now _ = ⊥

abbrev pub AreElsewhere : ℕ → List Event → Type 0
AreElsewhere now [] = Unit {0}
AreElsewhere now (e ∷ events) = IsElsewhere now e × AreElsewhere (clock_step now e) events

pub data SideStep (T : Types) (seal : Sealing) (now : ℕ) : Table → Table → List Event → Type 0 where
  writes : {xs : Table} (time : ℕ) (w : Write) → now ≤ time → IsUnused w xs → SideStep T seal now xs (map (written_to w) xs) (wrote time w ∷ [])
  ticks : {xs ys : Table} {new : List Event} (time : ℕ) → now ≤ time → DrainsAll T seal time (map (begun_at time) xs) ys new → SideStep T seal now xs ys (ticked time ∷ new)
  hears : {xs ys : Table} (time : ℕ) (bytes : List ℕ) (index : ℕ) (items : List RtcpFb) → now ≤ time → Hears items xs ys
      → SideStep T seal now xs ys (got time Rtcp bytes ∷ opened_items index items ∷ [])
  passes : {xs : Table} (new : List Event) → AreElsewhere now new → SideStep T seal now xs xs new

pub data SidePlays (T : Types) (seal : Sealing) (Ls : List Outgoing) : Table → List Event → Type 0 where
  begun : SidePlays T seal Ls (map (λ L. (L, new_tx L)) Ls) []
  step : {xs ys : Table} {events new : List Event} → SidePlays T seal Ls xs events → SideStep T seal (clock events) xs ys new → SidePlays T seal Ls ys (events ++ new)

-- the same, or these and a tick that is cut off
pub data SideEnds (T : Types) (seal : Sealing) (Ls : List Outgoing) : Table → List Event → Type 0 where
  at_step : {xs : Table} {events : List Event} → SidePlays T seal Ls xs events → SideEnds T seal Ls xs events
  in_tick : {xs ys : Table} {events new : List Event} → SidePlays T seal Ls xs events → (time : ℕ) → clock events ≤ time → ServesAll T seal time (map (begun_at time) xs) ys new
      → SideEnds T seal Ls ys (events ++ ticked time ∷ new)

-- SSRC and number of what a side sealed
abbrev pub nonce_of : Event → List (ℕ × ℕ)
nonce_of (sealed ssrc n p bytes) = (ssrc, n) ∷ []
nonce_of _ = []

abbrev pub nonces : List Event → List (ℕ × ℕ)
nonces events = flat_map nonce_of events

-- no two RTP datagrams of a side share SSRC and number
abbrev pub NoNonceTwice : Type 0
NoNonceTwice = (T : Types) (seal : Sealing) (Ls : List Outgoing) (xs : Table) (events : List Event) → AreApart Ls → SideEnds T seal Ls xs events → NoRepeat (nonces events)
