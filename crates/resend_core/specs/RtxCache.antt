-- What a cache of sent packets stands for, and which packet it gives for a size.
use Rattle.std.specs.Prelude.{◌≡◌, ℕ, zero, suc, ◌/◌, ◌<◌, Bool, true, false, ◌==◌, min, if◌then◌else◌, length, List, [], ◌∷◌, slice_index_or, Option, Some, None}
use Rattle.std.specs.List.{list_any}
use Rattle.resend_core.specs.declared.rtx_cache.RtxCache.{RtxCache}
use Rattle.resend_core.specs.declared.rtx_cache.TheConstants.{INITIAL_CACHE_PACKETS}
use Rattle.resend_core.specs.declared.size_classes.TheConstants.{CLASS_SIZE, CLASS_COUNT}
use Rattle.resend_core.specs.ResendStore.{Event, pushed, evicted, Past, with_event, MustStore, latter, last_by, last_under, IsInOrder, AllStored, MayGo}

-- a cache that was made for so many packets, with room for ten of them at first
abbrev pub made_for : {P : Type 0} → ℕ → ℕ → Past P
made_for packets age = record { initial = min packets INITIAL_CACHE_PACKETS; age = age; greatest = packets; events = [] }

-- the number of a packet that was cached, if its size is of this class of 25 bytes
abbrev pub number_in : {P : Type 0} → (P → ℕ) → ℕ → Event P → Option ℕ
number_in size class (pushed n t p stored) = if size p / CLASS_SIZE == class then Some n else None
number_in size class (evicted t) = None

-- the number of the packet of a class that was cached last
abbrev pub last_of_class : {P : Type 0} → (P → ℕ) → ℕ → List (Event P) → Option ℕ
last_of_class size class events = last_by (number_in size class) events

-- the packet of the greatest class below this one for which there is one
abbrev pub greatest_below : {P : Type 0} → (ℕ → Option P) → ℕ → Option P
greatest_below f zero = None
greatest_below f (suc class) = latter (greatest_below f class) (f class)

-- the packet that is held under a number
unfoldable pub packet_at : {P S : Type 0} → (S → ℕ → Option P) → RtxCache P S → ℕ → Option P
packet_at value_at c n = value_at c.packets n

-- the cache was made with these limits, and this happened to it since it was made or cleared
pub record StandsFor {P S : Type 0} (stands_for : S → Past P → Type 0) (size : P → ℕ) (c : RtxCache P S) (past : Past P) : Type 0 where
  pub store : stands_for c.packets past
  pub long : length c.numbers ≡ CLASS_COUNT
  pub classes : (k : ℕ) → k < CLASS_COUNT → slice_index_or c.numbers k None ≡ last_of_class size k past.events
  pub ordered : IsInOrder past.events → 0 < past.initial → 0 < past.age → AllStored past.events

-- a packet was cached: it was pushed, and stored where it must be, and too old ones went
abbrev pub IsCached : {P S : Type 0} → (S → Past P → Type 0) → (P → ℕ) → Past P → ℕ → ℕ → P → RtxCache P S → Type 0
IsCached stands_for size past n t p c = (stored : Bool) × (MustStore past n t → stored ≡ true) × StandsFor stands_for size c (with_event (with_event past (pushed n t p stored)) (evicted t))

-- no number was pushed twice
abbrev pub is_push_of : {P : Type 0} → ℕ → Event P → Bool
is_push_of n (pushed m t p stored) = m == n
is_push_of n (evicted t) = false

abbrev pub CachedOnce : {P : Type 0} → List (Event P) → Type 0
CachedOnce [] = Unit {0}
CachedOnce (pushed n t p stored ∷ es) = (list_any (is_push_of n) es ≡ false) × CachedOnce es
CachedOnce (evicted t ∷ es) = CachedOnce es

-- a packet of a class below this one is not held only where it may go
abbrev pub NoneKept : {P : Type 0} → (P → ℕ) → Past P → ℕ → Type 0
NoneKept {P} size past class = (n t : ℕ) (p : P) → last_under n past.events ≡ Some (t, p) → size p / CLASS_SIZE < class → MayGo past n t
