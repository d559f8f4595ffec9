-- What is seen of the source and the sink in memory.
use Rattle.std.specs.Prelude.{ℕ, min, List, length, drop, ◌++◌}
use Rattle.media_base.specs.Ends.{next_count}

-- the bytes that a source has left, at most how many it gives a call, at which calls it fails, and how
-- many calls there were and how many failed
pub record MemorySource : Type 0 where
  pub left : List ℕ
  pub piece : ℕ
  pub failing : List ℕ
  pub calls : ℕ
  pub faults : ℕ

-- the bytes that a sink has taken, how many it takes in all, and the rest as for a source
pub record MemorySink : Type 0 where
  pub written : List ℕ
  pub room : ℕ
  pub piece : ℕ
  pub failing : List ℕ
  pub calls : ℕ
  pub faults : ℕ

abbrev pub source_left : MemorySource → List ℕ
source_left s = s.left

abbrev pub sink_written : MemorySink → List ℕ
sink_written s = s.written

-- how many bytes a call gives into so much room
abbrev pub given_count : MemorySource → ℕ → ℕ
given_count s room = min s.piece (min room (length s.left))

-- how many bytes a call takes of so many
abbrev pub taken_count : MemorySink → ℕ → ℕ
taken_count s count = min s.piece count

-- the source after a call that gave so many bytes
abbrev pub after_read : MemorySource → ℕ → MemorySource
after_read s count = record s { left = drop count s.left; calls = next_count s.calls }

-- the source after a call that failed
abbrev pub after_failed_read : MemorySource → MemorySource
after_failed_read s = record s { calls = next_count s.calls; faults = next_count s.faults }

-- the sink after a call that took these bytes
abbrev pub after_write : MemorySink → List ℕ → MemorySink
after_write s bytes = record s { written = s.written ++ bytes; calls = next_count s.calls }

-- the sink after a call that failed
abbrev pub after_failed_write : MemorySink → MemorySink
after_failed_write s = record s { calls = next_count s.calls; faults = next_count s.faults }
