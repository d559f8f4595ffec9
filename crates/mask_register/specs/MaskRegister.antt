-- What a register with a mask stands for.
use Rattle.std.specs.Prelude.{◌≡◌, ℕ, ◌-◌, ◌<◌, Bool, true, ◌&&◌, nat_lt, min, max, if◌then◌else◌, List, [], ◌∷◌, Option, Some, None}
use Rattle.repair_core.specs.declared.register_nack.TheConstants.{MAX_NACKS}
use Rattle.repair_core.specs.Fresh.{greatest}
use Rattle.repair_core.specs.Rounds.{Heard, taken, asked, in_gap, numbers_up, later}
use Rattle.mask_register.specs.declared.asks.Ask.{Ask}
use Rattle.mask_register.specs.declared.window.Window.{Window}
use Rattle.mask_register.specs.declared.register.MaskRegister.{MaskRegister}
use Rattle.mask_register.specs.Asks.{row_of, asked_in, is_due_row, turned}
use Rattle.mask_register.specs.Window.{is_missing, lowest_in, Holds}

-- what is kept of the numbers that were taken
abbrev pub IsKept : Option Window → List ℕ → Type 0
IsKept None [] = Unit {0}
IsKept None (x ∷ xs) = ⊥
IsKept (Some w) [] = ⊥
IsKept (Some w) (x ∷ xs) = Holds w x (x ∷ xs)

-- the rows of what was asked for: those of the missing numbers, and none above the greatest
pub record HoldsAsks (rows : List Ask) (past : Heard) : Type 0 where
  pub asks : (k : ℕ) → in_gap (taken past) k ≡ true → asked_in rows k ≡ asked past k
  pub above : (k : ℕ) → greatest (taken past) < k → asked_in rows k ≡ (0, 0)

-- the register was told this
pub record Remembers (r : MaskRegister) (past : Heard) : Type 0 where
  pub kept : IsKept r.window (taken past)
  pub asks : HoldsAsks r.asks past

-- the rows after a round over these numbers, of those that are missing
abbrev pub rows_after : Window → List Ask → ℕ → ℕ → List ℕ → List Ask
rows_after w rows now wait [] = []
rows_after w rows now wait (k ∷ ks) = if is_missing w k then turned (row_of rows k) now wait ∷ rows_after w rows now wait ks else rows_after w rows now wait ks

-- those of the numbers that a round asks for
abbrev pub due_of : Window → List Ask → ℕ → ℕ → List ℕ → List ℕ
due_of w rows now wait [] = []
due_of w rows now wait (k ∷ ks) = if is_missing w k && is_due_row (row_of rows k) now wait then k ∷ due_of w rows now wait ks else due_of w rows now wait ks

-- the numbers of the window that may be missing
abbrev pub window_of : Window → List ℕ
window_of w = numbers_up (w.greatest - lowest_in w) (lowest_in w)

-- those from one on and below another
abbrev pub window_in : Window → ℕ → ℕ → List ℕ
window_in w from to = numbers_up (min w.greatest to - max (lowest_in w) from) (max (lowest_in w) from)

-- a number is missing that was asked for fewer than five times
abbrev pub is_open : Window → List Ask → ℕ → Bool
is_open w rows k = is_missing w k && nat_lt (row_of rows k).times MAX_NACKS

-- the latest of the last asks of those numbers that are missing, and of one more
abbrev pub latest_of : Window → List Ask → Option ℕ → List ℕ → Option ℕ
latest_of w rows latest [] = latest
latest_of w rows latest (k ∷ ks) = latest_of w rows (if is_missing w k then later latest (row_of rows k).last else latest) ks
