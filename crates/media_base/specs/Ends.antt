-- What is seen of a reader or a writer of std as a source or a sink.
use Rattle.std.specs.Prelude.{ℕ, ◌+◌, ◌-◌, ◌^◌, min}

-- the reader or the writer, and how many of its calls failed
pub record Ended (T : Type 0) : Type 0 where
  pub inner : T
  pub faults : ℕ

-- one more fault; a count that a u64 cannot hold is the greatest u64
abbrev pub next_count : ℕ → ℕ
next_count n = min (n + 1) (2 ^ 64 - 1)
