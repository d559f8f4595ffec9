-- What an evicting buffer stands for.
use Rattle.std.specs.Prelude.{◌≡◌, ℕ, ◌%◌, ◌+◌, ◌<◌, ◌≤◌, ◌⊎◌, ◌&&◌, Bool, true, nat_lt, nat_le, not, min, max, ◌-◌, if◌then◌else◌, Option, Some, None, unwrap_or, length, map, replicate, slice_set, option_map}
use Rattle.std.specs.Vec.{with_item}
use Rattle.resend_core.specs.declared.ring.Entry.{Entry}
use Rattle.resend_core.specs.declared.rtx_cache_buf.EvictingBuffer.{EvictingBuffer}
use Rattle.resend_core.specs.Ring.{slot_of, held, put_in, settled_all, least_young, kept_from, raised_all, IsInPlace}
use Rattle.resend_core.specs.ResendStore.{Past, pushed, with_event, size_of, MustStore, last_under, last_position, next_position, latest_eviction, IsRising, MayGo, mark_above, raised_to, IsMarked, is_under}

-- the value that is held under a position
unfoldable pub value_at : {T : Type 0} → EvictingBuffer T → ℕ → Option T
value_at b p = option_map (λ e. e.value) (held b.ring.items p)

-- the buffer was made with these limits, and this happened to it since it was made or cleared
pub record StandsFor {T : Type 0} (b : EvictingBuffer T) (past : Past T) : Type 0 where
  pub ages : b.age ≡ past.age
  pub sized : b.size ≡ size_of past
  pub roomy : 0 < past.initial → 0 < length b.ring.items
  pub timed : b.timeout ≡ latest_eviction past.events
  pub in_place : IsInPlace b.ring.items
  pub true_to : (p : ℕ) (e : Entry T) → held b.ring.items p ≡ Some e → last_under p past.events ≡ Some (e.moment, e.value)
  pub keeps : (p t : ℕ) (v : T) → last_under p past.events ≡ Some (t, v) → (held b.ring.items p ≡ Some (record { position = p; moment = t; value = v })) ⊎ MayGo past p t
  pub newest : b.last ≡ last_position past.events
  pub marked : (m : ℕ) → b.mark ≡ Some m → m ≤ next_position past.events
  pub inert : past.initial ≡ 0 → length b.ring.items ≡ 0
  pub low : (p : ℕ) (e : Entry T) → held b.ring.items p ≡ Some e → b.low ≤ p
  pub high : (p : ℕ) (e : Entry T) → held b.ring.items p ≡ Some e → p ≤ b.high
  pub young : IsRising past.events → (p : ℕ) (e : Entry T) → held b.ring.items p ≡ Some e → latest_eviction past.events ≤ e.moment + past.age

-- the buffer with another value in the entry of a slot
abbrev pub with_slot : {T : Type 0} → EvictingBuffer T → ℕ → Option (Entry T) → T → EvictingBuffer T
with_slot {T} b i o w = record b { ring = with_item b.ring i (option_map (λ (e : Entry T). record e { value = w }) o) }

-- the buffer with another value in the slot of a position
unfoldable pub with_value : {T : Type 0} → EvictingBuffer T → ℕ → T → EvictingBuffer T
with_value b p w = with_slot b (p % length b.ring.items) (slot_of b.ring.items p) w

-- no entry of another position stands in the slot, unless the ring has its greatest size
abbrev pub IsReady : {T : Type 0} → EvictingBuffer T → ℕ → Type 0
IsReady {T} b p = (f : Entry T) → slot_of b.ring.items p ≡ Some f → (f.position ≡ p) ⊎ (b.size ≤ length b.ring.items)

-- from the lowest position that may be held to the greatest, and to one more, are no more positions than slots
abbrev pub Spans : {T : Type 0} → EvictingBuffer T → ℕ → ℕ → Type 0
Spans b p slots = max b.high p - min b.low p < slots

-- the ring has grown, for a position
pub record Grows {T : Type 0} (old new : EvictingBuffer T) (p : ℕ) : Type 0 where
  pub slots : ℕ
  pub above : length old.ring.items < slots
  pub apart : Spans old p slots ⊎ (slots ≡ old.size)
  pub items : new.ring.items ≡ settled_all (replicate slots None) old.ring.items
  pub rest : new ≡ record old { ring = new.ring }

-- the lowest position that may be held, after one more is
abbrev pub lowered : {T : Type 0} → EvictingBuffer T → ℕ → ℕ
lowered b p = if nat_lt b.high b.low then p else min b.low p

-- an entry was put in
pub record Places {T : Type 0} (old new : EvictingBuffer T) (e : Entry T) : Type 0 where
  pub items : new.ring.items ≡ put_in old.ring.items e
  pub rest : new ≡ record old {
    ring = new.ring;
    last = Some e.position;
    mark = Some (unwrap_or old.mark e.position);
    low = lowered old e.position;
    high = max old.high e.position;
  }

-- entries were dropped that are older than the age; none that is left is below low
pub record Drops {T : Type 0} (old new : EvictingBuffer T) (now : ℕ) : Type 0 where
  pub long : length new.ring.items ≡ length old.ring.items
  pub in_place : IsInPlace new.ring.items
  pub from : (q : ℕ) (x : Entry T) → held new.ring.items q ≡ Some x → held old.ring.items q ≡ Some x
  pub stays : (q : ℕ) (x : Entry T) → held old.ring.items q ≡ Some x → (held new.ring.items q ≡ Some x) ⊎ ((old.age < now - x.moment) × IsMarked new.mark q)
  pub marks : (new.mark ≡ old.mark) ⊎ ((q : ℕ) × (x : Entry T) × (held old.ring.items q ≡ Some x) × (held new.ring.items q ≡ None) × (new.mark ≡ Some (mark_above q)))
  pub rises : (q : ℕ) → IsMarked old.mark q → IsMarked new.mark q
  pub low : (q : ℕ) (x : Entry T) → held new.ring.items q ≡ Some x → new.low ≤ q
  pub rest : new ≡ record old { ring = new.ring; mark = new.mark; low = new.low }

-- of the entries that are left the lowest is not older than the age
pub record IsDone {T : Type 0} (b : EvictingBuffer T) (now : ℕ) : Type 0 where
  pub young : (q : ℕ) (x : Entry T) → held b.ring.items q ≡ Some x → (y : Entry T) × (held b.ring.items y.position ≡ Some y) × (y.position ≤ q) × (now - y.moment ≤ b.age)

-- every entry stands in its slot, and its position is not below low nor above high
pub record IsBounded {T : Type 0} (b : EvictingBuffer T) : Type 0 where
  pub in_place : IsInPlace b.ring.items
  pub low : (p : ℕ) (e : Entry T) → held b.ring.items p ≡ Some e → b.low ≤ p
  pub high : (p : ℕ) (e : Entry T) → held b.ring.items p ≡ Some e → p ≤ b.high

-- the entry of the lowest position was dropped
pub record DropsLowest {T : Type 0} (old new : EvictingBuffer T) : Type 0 where
  pub items : new.ring.items ≡ slice_set old.ring.items (old.low % length old.ring.items) None
  pub rest : new ≡ record old { ring = new.ring; mark = raised_to old.mark old.low; low = mark_above old.low }

-- the mark after these positions went, of which this is the greatest
abbrev pub swept : Option ℕ → Option ℕ → Option ℕ
swept mark None = mark
swept mark (Some p) = raised_to mark p

-- all entries were looked at
pub record Sweeps {T : Type 0} (old new : EvictingBuffer T) (now : ℕ) : Type 0 where
  pub items : new.ring.items ≡ map (kept_from (least_young now old.age None old.ring.items)) old.ring.items
  pub rest : new ≡ record old {
    ring = new.ring;
    mark = swept old.mark (raised_all None old.ring.items (least_young now old.age None old.ring.items));
    low = unwrap_or (least_young now old.age None old.ring.items) old.low;
  }

-- a push has this effect: the value was stored or not, and it was where it must be
abbrev pub IsPushed : {T : Type 0} → Past T → ℕ → ℕ → T → EvictingBuffer T → Type 0
IsPushed past p t v b = (stored : Bool) × (MustStore past p t → stored ≡ true) × StandsFor b (with_event past (pushed p t v stored))

-- a push is looked at: the buffer has slots and an age, and it comes not before the last eviction, nor below the mark
abbrev pub takes_push : {T : Type 0} → EvictingBuffer T → ℕ → ℕ → Bool
takes_push b p t = nat_lt 0 (length b.ring.items) && (nat_lt 0 b.age && (nat_le b.timeout t && not (is_under b.mark p)))
