-- The numbers that were written on a stream, as they are kept.
use Rattle.std.specs.Prelude.{◌≡◌, ℕ, ◌+◌, ◌-◌, ◌≤◌, true, false, List, [], ◌∷◌, ◌++◌, Option, Some, None}
use Rattle.std.specs.BTreeSet.{BTreeSet, contains}
use Rattle.std.specs.List.{range_with_len}
use Rattle.std.specs.Ordering.{nat_cmp}
use Rattle.media_play.specs.declared.numbers.Stretch.{Stretch}

-- the numbers of stretches
abbrev pub numbers_in : List Stretch → List ℕ
numbers_in [] = []
numbers_in (s ∷ above) = range_with_len s.first (s.last + 1 - s.first) ++ numbers_in above

-- each stretch is above the one before it, and none is below a number
abbrev pub Rise : ℕ → List Stretch → Type 0
Rise from [] = Unit {0}
Rise from (s ∷ above) = (from ≤ s.first) × (s.first ≤ s.last) × Rise (s.last + 1) above

-- the stretches rise up to the top, and no late number is above it
abbrev pub AreInOrder : List Stretch → Option Stretch → BTreeSet ℕ → Type 0
AreInOrder lower None late = (lower ≡ []) × ((n : ℕ) → contains nat_cmp late n ≡ false)
AreInOrder lower (Some top) late =
    Rise 0 (lower ++ top ∷ []) × ((n : ℕ) → contains nat_cmp late n ≡ true → n ≤ top.last)
