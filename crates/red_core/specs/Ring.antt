-- Numbers that are kept in a ring.
use Rattle.std.specs.Prelude.{◌≡◌, ℕ, ◌<◌, ◌≤◌, List, ◌++◌, take, drop, length, reverse}

-- all of them, the last one first, where `next` is the place behind it
abbrev pub last_first : {X : Type 0} → List X → (next : ℕ) → List X
last_first xs next = reverse (drop next xs ++ take next xs)

-- until all of its room is taken a ring is filled from the front
pub record IsRing {X : Type 0} (room : ℕ) (xs : List X) (next : ℕ) : Type 0 where
  pub within : next ≤ length xs
  pub filled : length xs < room → next ≡ length xs
  pub fits : length xs ≤ room
