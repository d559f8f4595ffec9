-- What a register knows of the numbers in its window.
use Rattle.std.specs.Prelude.{ℕ, ◌+◌, ◌%◌, Bool, true, false, not, ◌&&◌, ◌==◌, nat_lt, if◌then◌else◌, List, [], ◌∷◌, slice_index_or, slice_set, Option}
use Rattle.repair_core.specs.Rounds.{may_ask, later}
use Rattle.repair_core.specs.declared.register_nack.TheConstants.{MAX_NACKS}
use Rattle.repair_core.specs.declared.slots.Slot.{Slot}
use Rattle.repair_core.specs.declared.slots.TheConstants.{WINDOW}

abbrev pub no_slot : Slot
no_slot = record { number = 0; taken = false; asks = 0; last = 0 }

-- the slot of a number that was taken
abbrev pub taken_slot : ℕ → Slot
taken_slot n = record { number = n; taken = true; asks = 0; last = 0 }

-- the number was taken, as far as its slot tells
abbrev pub holds : List Slot → ℕ → Bool
holds slots k = let slot = slice_index_or slots (k % WINDOW) no_slot in slot.taken && (slot.number == k)

-- a number of which nothing is known
abbrev pub untouched : ℕ → Slot
untouched k = record { number = k; taken = false; asks = 0; last = 0 }

-- what is known of a number
abbrev pub known_in : Slot → ℕ → Slot
known_in s k = if s.number == k then s else untouched k

abbrev pub known : List Slot → ℕ → Slot
known slots k = known_in (slice_index_or slots (k % WINDOW) no_slot) k

-- how often a number was asked for, and when last
abbrev pub asks_at : List Slot → ℕ → ℕ × ℕ
asks_at slots k = ((known slots k).asks, (known slots k).last)

-- it is to be asked for
abbrev pub slot_due : Slot → ℕ → ℕ → Bool
slot_due s now wait = not s.taken && may_ask (s.asks, s.last) now wait

abbrev pub asked_slot : Slot → ℕ → ℕ → Slot
asked_slot s k now = record { number = k; taken = false; asks = s.asks + 1; last = now }

-- the slots after a number was asked for, if it was to be
abbrev pub ask : ℕ → ℕ → List Slot → ℕ → List Slot
ask now wait slots k = if slot_due (known slots k) now wait then slice_set slots (k % WINDOW) (asked_slot (known slots k) k now) else slots

-- the slots after these numbers, one after another
abbrev pub ask_all : ℕ → ℕ → List Slot → List ℕ → List Slot
ask_all now wait slots [] = slots
ask_all now wait slots (k ∷ ks) = ask_all now wait (ask now wait slots k) ks

-- those of the numbers that are asked for then
abbrev pub due_in : ℕ → ℕ → List Slot → List ℕ → List ℕ
due_in now wait slots [] = []
due_in now wait slots (k ∷ ks) = if slot_due (known slots k) now wait then k ∷ due_in now wait (ask now wait slots k) ks else due_in now wait (ask now wait slots k) ks

abbrev pub slot_needs : Slot → Bool
slot_needs s = not s.taken && nat_lt s.asks MAX_NACKS

-- the latest of the last asks of the numbers that were not taken, and of one more
abbrev pub latest_in : List Slot → Option ℕ → List ℕ → Option ℕ
latest_in slots latest [] = latest
latest_in slots latest (k ∷ ks) = latest_in slots (if (known slots k).taken then latest else later latest (known slots k).last) ks
