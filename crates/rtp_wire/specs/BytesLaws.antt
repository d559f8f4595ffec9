-- Words as they stand in a header.
use Rattle.std.specs.Prelude.{ℕ, ◌<◌, ◌^◌, List}
use Rattle.std.specs.List.{AllByRecursion}

-- numbers of 32 bits
abbrev pub AreWords : List ℕ → Type 0
AreWords words = AllByRecursion (λ n. n < 2 ^ 32) words
