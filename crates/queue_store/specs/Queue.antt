-- What a queue of values by rising position stands for.
use Rattle.std.specs.Prelude.{◌≡◌, ℕ, suc, ◌+◌, ◌-◌, ◌<◌, ◌≤◌, ◌⊎◌, ◌&&◌, ◌==◌, Bool, nat_lt, nat_le, not, List, [], ◌∷◌, length, slice_set, Option, Some, None, unwrap_or, option_map, if◌then◌else◌}
use Rattle.resend_core.specs.ResendStore.{Past, size_of, last_under, last_position, next_position, latest_eviction, IsRising, MayGo, mark_above, IsMarked, is_under}
use Rattle.queue_store.specs.declared.stamps.Stamp.{Stamp}
use Rattle.queue_store.specs.declared.queue.QueueStore.{QueueStore}

-- the index of a position
abbrev pub index_of : List Stamp → ℕ → Option ℕ
index_of [] p = None
index_of (s ∷ ss) p = if s.position == p then Some 0 else option_map (λ i. suc i) (index_of ss p)

-- what is held under a position, and since when
abbrev pub held : {T : Type 0} → List Stamp → List T → ℕ → Option (ℕ × T)
held [] vs p = None
held (s ∷ ss) [] p = None
held (s ∷ ss) (v ∷ vs) p = if s.position == p then Some (s.moment, v) else held ss vs p

-- what is held under each position after one more was put in
abbrev pub put_held : {T : Type 0} → Stamp → T → List Stamp → List T → ℕ → Option (ℕ × T)
put_held s v ss vs k = if s.position == k then Some (s.moment, v) else held ss vs k

abbrev pub held_in : {T : Type 0} → QueueStore T → ℕ → Option (ℕ × T)
held_in q p = held q.stamps q.values p

-- both queues are as long
abbrev pub IsPaired : {T : Type 0} → QueueStore T → Type 0
IsPaired q = length q.stamps ≡ length q.values

-- the value that is held under a position
unfoldable pub value_at : {T : Type 0} → QueueStore T → ℕ → Option T
value_at {T} q p = option_map (λ (x : ℕ × T). x.1) (held_in q p)

-- the queue with another value at an index
abbrev pub with_item : {T : Type 0} → QueueStore T → Option ℕ → T → QueueStore T
with_item q None w = q
with_item q (Some i) w = record q { values = slice_set q.values i w }

-- the queue with another value under a position
unfoldable pub with_value : {T : Type 0} → QueueStore T → ℕ → T → QueueStore T
with_value q p w = with_item q (index_of q.stamps p) w

-- the queue was made with these limits, and this happened to it since it was made or cleared
pub record StandsFor {T : Type 0} (q : QueueStore T) (past : Past T) : Type 0 where
  pub ages : q.age ≡ past.age
  pub sized : q.size ≡ size_of past
  pub timed : q.timeout ≡ latest_eviction past.events
  pub paired : length q.stamps ≡ length q.values
  pub true_to : (p : ℕ) (x : ℕ × T) → held_in q p ≡ Some x → last_under p past.events ≡ Some x
  pub keeps : (p : ℕ) (x : ℕ × T) → last_under p past.events ≡ Some x → (held_in q p ≡ Some x) ⊎ MayGo past p x.0
  pub newest : q.last ≡ last_position past.events
  pub marked : (m : ℕ) → q.mark ≡ Some m → m ≤ next_position past.events
  pub young : IsRising past.events → (p : ℕ) (x : ℕ × T) → held_in q p ≡ Some x → latest_eviction past.events ≤ x.0 + past.age

-- a push is looked at: the queue has an age, and it comes not before the last eviction, nor below the mark
abbrev pub takes_push : {T : Type 0} → QueueStore T → ℕ → ℕ → Bool
takes_push q p t = nat_lt 0 q.age && (nat_le q.timeout t && not (is_under q.mark p))

-- a value was put under a position
pub record Puts {T : Type 0} (old new : QueueStore T) (p t : ℕ) (v : T) : Type 0 where
  pub paired : length new.stamps ≡ length new.values
  pub held : (k : ℕ) → held_in new k ≡ (if p == k then Some (t, v) else held_in old k)
  pub rest : new ≡ record old { stamps = new.stamps; values = new.values; last = Some p; mark = Some (unwrap_or old.mark p) }

-- the values of the lowest positions were dropped, each of which was to go
pub record Drops {T : Type 0} (gone : ℕ → ℕ → Type 0) (old new : QueueStore T) : Type 0 where
  pub paired : length new.stamps ≡ length new.values
  pub from : (p : ℕ) (x : ℕ × T) → held_in new p ≡ Some x → held_in old p ≡ Some x
  pub stays : (p : ℕ) (x : ℕ × T) → held_in old p ≡ Some x → (held_in new p ≡ Some x) ⊎ (gone p x.0 × (held_in new p ≡ None) × IsMarked new.mark p)
  pub marks : (new.mark ≡ old.mark) ⊎ ((p : ℕ) × (x : ℕ × T) × (held_in old p ≡ Some x) × (held_in new p ≡ None) × (new.mark ≡ Some (mark_above p)))
  pub rises : (p : ℕ) → IsMarked old.mark p → IsMarked new.mark p
  pub higher : (m : ℕ) → old.mark ≡ Some m → (k : ℕ) × (new.mark ≡ Some k) × (m ≤ k)
  pub rest : new ≡ record old { stamps = new.stamps; values = new.values; mark = new.mark }

-- it is older than the age
abbrev pub IsOld : ℕ → ℕ → ℕ → ℕ → Type 0
IsOld now age p t = age < now - t

-- it is the size or more below a position that is held
abbrev pub IsFar : {T : Type 0} → QueueStore T → ℕ → ℕ → Type 0
IsFar {T} q p t = (g : ℕ) × (y : ℕ × T) × (held_in q g ≡ Some y) × (p + q.size ≤ g)

-- it is the one of this position and moment
abbrev pub IsThat : Stamp → ℕ → ℕ → Type 0
IsThat s p t = (p ≡ s.position) × (t ≡ s.moment)

-- of what is held the lowest is not older than the age
pub record IsDone {T : Type 0} (q : QueueStore T) (now : ℕ) : Type 0 where
  pub young : (p : ℕ) (x : ℕ × T) → held_in q p ≡ Some x → (l : ℕ) × (y : ℕ × T) × (held_in q l ≡ Some y) × (l ≤ p) × (now - y.0 ≤ q.age)
