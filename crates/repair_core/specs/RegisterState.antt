-- What is seen of a register.
use Rattle.std.specs.Prelude.{◌≡◌, ℕ, ◌-◌, ◌<◌, ◌≤◌, Bool, false, max, List}
use Rattle.rtp_base.specs.declared.number.TheConstants.{NUMBER_LIMIT}
use Rattle.repair_core.specs.declared.register_nack.TheConstants.{MAX_MISORDER}
use Rattle.repair_core.specs.declared.slots.Slot.{Slot}
use Rattle.repair_core.specs.Slots.{known, slot_needs}

pub record RegisterState : Type 0 where
  pub started : Bool
  pub first : ℕ
  pub greatest : ℕ
  pub slots : List Slot

-- no number of the window is asked for again that is below this one
abbrev pub IsQuiet : ℕ → ℕ → List Slot → ℕ → Type 0
IsQuiet first greatest slots n = (k : ℕ) → max first (greatest - MAX_MISORDER) ≤ k → k < greatest → k < n → slot_needs (known slots k) ≡ false

pub record IsSettled (first greatest : ℕ) (slots : List Slot) (settled : ℕ) : Type 0 where
  pub small : greatest < NUMBER_LIMIT
  pub within : settled ≤ greatest
  pub quiet : IsQuiet first greatest slots settled
