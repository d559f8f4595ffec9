-- How often missing numbers were asked for.
use Rattle.std.specs.Prelude.{ℕ, ◌+◌, Bool, ◌==◌, if◌then◌else◌, List, [], ◌∷◌}
use Rattle.repair_core.specs.Rounds.{may_ask}
use Rattle.mask_register.specs.declared.asks.Ask.{Ask}

-- a number that was not asked for
abbrev pub unasked : ℕ → Ask
unasked k = record { number = k; times = 0; last = 0 }

-- the row of a number
abbrev pub row_of : List Ask → ℕ → Ask
row_of [] k = unasked k
row_of (a ∷ rows) k = if a.number == k then a else row_of rows k

-- how often a number was asked for, and when last
abbrev pub asks_of : Ask → ℕ × ℕ
asks_of a = (a.times, a.last)

abbrev pub asked_in : List Ask → ℕ → ℕ × ℕ
asked_in rows k = asks_of (row_of rows k)

abbrev pub is_due_row : Ask → ℕ → ℕ → Bool
is_due_row a now wait = may_ask (asks_of a) now wait

-- a row, after it was asked for if it was due
abbrev pub turned : Ask → ℕ → ℕ → Ask
turned a now wait = if is_due_row a now wait then record { number = a.number; times = a.times + 1; last = now } else a
