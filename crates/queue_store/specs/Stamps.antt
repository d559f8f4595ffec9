-- Positions that rise.
use Rattle.std.specs.Prelude.{ℕ, ◌≡◌, ◌+◌, ◌-◌, ◌<◌, ◌≤◌, List, [], ◌∷◌, length, slice_index_or, Option, Some, None}
use Rattle.queue_store.specs.declared.stamps.Stamp.{Stamp}

-- positions rise, from a number on
abbrev pub Rises : ℕ → List Stamp → Type 0
Rises n [] = Unit {0}
Rises n (s ∷ ss) = (n ≤ s.position) × Rises (s.position + 1) ss

abbrev pub no_stamp : Stamp
no_stamp = record { position = 0; moment = 0 }

abbrev pub stamp_at : List Stamp → ℕ → Stamp
stamp_at l i = slice_index_or l i no_stamp

abbrev pub first_of : List Stamp → Option Stamp
first_of [] = None
first_of (s ∷ ss) = Some s

-- a position stands at an index, and no earlier
pub record IsFound (l : List Stamp) (p i : ℕ) : Type 0 where
  pub within : i < length l
  pub here : (stamp_at l i).position ≡ p
  pub below : (k : ℕ) → k < i → (stamp_at l k).position < p

-- the positions below a place are lower, and those from it on are greater
pub record IsPlace (l : List Stamp) (p i : ℕ) : Type 0 where
  pub within : i ≤ length l
  pub below : (k : ℕ) → k < i → (stamp_at l k).position < p
  pub above : (k : ℕ) → i ≤ k → k < length l → p < (stamp_at l k).position

-- all positions are above a number
abbrev pub AllAbove : ℕ → List Stamp → Type 0
AllAbove p l = (k : ℕ) → k < length l → p < (stamp_at l k).position

-- a greatest position
pub record IsGreatest (l : List Stamp) (s : Stamp) : Type 0 where
  pub some : 0 < length l
  pub last : stamp_at l (length l - 1) ≡ s
  pub greatest : (k : ℕ) → k < length l → (stamp_at l k).position ≤ s.position

-- the first position and the last, where there are any
pub record AreEnds (l : List Stamp) (low high : ℕ) : Type 0 where
  pub first : 0 < length l → (stamp_at l 0).position ≡ low
  pub last : 0 < length l → (stamp_at l (length l - 1)).position ≡ high
