-- What a register stands for.
use Rattle.std.specs.Prelude.{◌≡◌, ℕ, ◌+◌, ◌-◌, ◌%◌, ◌<◌, ◌≤◌, Bool, true, false, not, ◌&&◌, ◌||◌, nat_eq, nat_lt, nat_le, min, max, unwrap_or, if◌then◌else◌, slice_set, length, List, [], ◌∷◌, Option, Some, None}
use Rattle.std.specs.List.{list_any}
use Rattle.repair_core.specs.declared.register_nack.TheConstants.{MAX_MISORDER}
use Rattle.repair_core.specs.declared.slots.TheConstants.{WINDOW}
use Rattle.repair_core.specs.Fresh.{greatest}
use Rattle.repair_core.specs.Slots.{holds, taken_slot, known, asks_at, ask_all, due_in, slot_needs, latest_in}
use Rattle.repair_core.specs.Rounds.{Heard, taken, asked, numbers_up, grace_of, moment_after}
use Rattle.repair_core.specs.RegisterState.{RegisterState}

-- of a list that is not empty the register keeps its first and its greatest, and which of the last 101 numbers are in it;
-- a slot may have an older number, and no number above the greatest
pub record Keeps (r : RegisterState) (x : ℕ) (l : List ℕ) : Type 0 where
  pub begun : r.started ≡ true
  pub low : r.first ≡ x
  pub high : r.greatest ≡ greatest l
  pub window : (k : ℕ) → k ≤ greatest l → greatest l ≤ k + MAX_MISORDER → holds r.slots k ≡ list_any (nat_eq k) l
  pub below : (k : ℕ) → greatest l < k → holds r.slots k ≡ false

abbrev pub IsKept : RegisterState → List ℕ → Type 0
IsKept r [] = (r.started ≡ false) × ((k : ℕ) → holds r.slots k ≡ false)
IsKept r (x ∷ xs) = Keeps r x (x ∷ xs)

-- the register stands for the numbers that were taken, in order
unfoldable pub StandsFor : RegisterState → List ℕ → Type 0
StandsFor r l = (length r.slots ≡ WINDOW) × IsKept r l

-- what the register answers, and what it is after it took a number
abbrev pub accepts_number : RegisterState → ℕ → Bool
accepts_number r n = not r.started || nat_lt r.greatest n || (nat_le r.first n && nat_le r.greatest (n + MAX_MISORDER) && not (holds r.slots n))

abbrev pub put_number : RegisterState → ℕ → RegisterState
put_number r n = record {
  started = true;
  first = if r.started then r.first else n;
  greatest = if r.started then max r.greatest n else n;
  slots = slice_set r.slots (n % WINDOW) (taken_slot n);
}

abbrev pub started : RegisterState → Option ℕ → RegisterState
started r None = r
started r (Some n) = put_number r n

-- the register was told this
pub record Remembers (r : RegisterState) (past : Heard) : Type 0 where
  pub stands : StandsFor r (taken past)
  pub asks : (k : ℕ) → list_any (nat_eq k) (taken past) ≡ false → greatest (taken past) ≤ k + MAX_MISORDER → asks_at r.slots k ≡ asked past k

-- the numbers that are looked at in a round
abbrev pub window_of : RegisterState → List ℕ
window_of r = let low = max r.first (r.greatest - MAX_MISORDER) in numbers_up (r.greatest - low) low

abbrev pub with_round : RegisterState → ℕ → ℕ → RegisterState
with_round r now wait = if r.started then record r { slots = ask_all now wait r.slots (window_of r) } else r

abbrev pub round_due : RegisterState → ℕ → ℕ → List ℕ
round_due r now wait = if r.started then due_in now wait r.slots (window_of r) else []

-- the numbers of the window from one on and below another
abbrev pub window_in : RegisterState → ℕ → ℕ → List ℕ
window_in r from to = let low = max (max r.first (r.greatest - MAX_MISORDER)) from in numbers_up (min r.greatest to - low) low

abbrev pub needs_any : RegisterState → ℕ → ℕ → Bool
needs_any r from to = r.started && list_any (λ k. slot_needs (known r.slots k)) (window_in r from to)

abbrev pub last_ask : RegisterState → ℕ → ℕ → Option ℕ
last_ask r from to = if r.started then latest_in r.slots None (window_in r from to) else None

abbrev pub give_up : RegisterState → ℕ → ℕ → ℕ → Option ℕ → Option ℕ
give_up r from to received trip = if needs_any r from to then None else moment_after (unwrap_or (last_ask r from to) received) (grace_of trip)
