-- The numbers that may be missing, and those of them that are.
use Rattle.std.specs.Prelude.{◌≡◌, ℕ, ◌+◌, ◌-◌, ◌≤◌, Bool, not, ◌&&◌, ◌||◌, nat_eq, nat_lt, nat_le, max, List}
use Rattle.std.specs.List.{list_any}
use Rattle.repair_core.specs.declared.register_nack.TheConstants.{MAX_MISORDER}
use Rattle.repair_core.specs.Fresh.{greatest}
use Rattle.mask_register.specs.declared.window.Window.{Window}
use Rattle.mask_register.specs.Mask.{has}

-- a number up to the greatest, and at most 100 below it, was not taken
abbrev pub is_missing : Window → ℕ → Bool
is_missing w k = not (has w.taken (w.greatest - k))

-- the number may still be taken
abbrev pub accepts_number : Window → ℕ → Bool
accepts_number w n = nat_lt w.greatest n || (nat_le w.first n && (nat_le w.greatest (n + MAX_MISORDER) && is_missing w n))

-- the lowest number that may be missing
abbrev pub lowest_in : Window → ℕ
lowest_in w = max w.first (w.greatest - MAX_MISORDER)

-- the window keeps of a list its first number and its greatest, and which of the last 101 numbers are in it
pub record Holds (w : Window) (x : ℕ) (l : List ℕ) : Type 0 where
  pub low : w.first ≡ x
  pub high : w.greatest ≡ greatest l
  pub window : (k : ℕ) → k ≤ greatest l → greatest l ≤ k + MAX_MISORDER → has w.taken (greatest l - k) ≡ list_any (nat_eq k) l

-- the window after one more number was taken
pub record Takes (old new : Window) (n : ℕ) : Type 0 where
  pub first : new.first ≡ old.first
  pub greatest : new.greatest ≡ max old.greatest n
  pub taken : (k : ℕ) → k ≤ new.greatest → new.greatest ≤ k + MAX_MISORDER → has new.taken (new.greatest - k) ≡ (nat_eq k n || (nat_le k old.greatest && has old.taken (old.greatest - k)))
