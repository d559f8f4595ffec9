-- What a queue of packets holds at a moment. A number that its type cannot hold is the type's greatest.
use Rattle.std.specs.Prelude.{ℕ, ◌+◌, ◌-◌, ◌*◌, ◌^◌, nat_lt, min, max, if◌then◌else◌, Option, Some, None}
use Rattle.media_units.specs.declared.time.TheConstants.{NOT_HAPPENING_SECONDS}
use Rattle.pace_units.specs.declared.queue.QueuePriority.{QueuePriority}
use Rattle.pace_units.specs.declared.queue.QueuePriority.TheVariants.{Media, Padding, Empty}
use Rattle.pace_units.specs.declared.queue.QueueSnapshot.{QueueSnapshot}

-- media goes first, then padding, then nothing
abbrev pub rank_of : QueuePriority → ℕ
rank_of Media = 0
rank_of Padding = 1
rank_of Empty = 2

abbrev pub first_of_priorities : QueuePriority → QueuePriority → QueuePriority
first_of_priorities one other = if nat_lt (rank_of other) (rank_of one) then other else one

-- the earlier and the later of two moments that may be there
abbrev pub earlier_of : Option ℕ → Option ℕ → Option ℕ
earlier_of None other = other
earlier_of (Some one) None = Some one
earlier_of (Some one) (Some other) = Some (min one other)

abbrev pub later_of : Option ℕ → Option ℕ → Option ℕ
later_of None other = other
later_of (Some one) None = Some one
later_of (Some one) (Some other) = Some (max one other)

-- a queue that holds nothing, at a moment that never comes
abbrev pub empty_snapshot : QueueSnapshot
empty_snapshot = record {
  created_at = NOT_HAPPENING_SECONDS * 1000000000;
  byte_size = 0;
  packet_count = 0;
  total_queue_time_origin = 0;
  last_emitted = None;
  first_unsent = None;
  priority = Empty;
}

-- two queues as one
abbrev pub merged : QueueSnapshot → QueueSnapshot → QueueSnapshot
merged one other = record {
  created_at = min one.created_at other.created_at;
  byte_size = min (one.byte_size + other.byte_size) (2 ^ 64 - 1);
  packet_count = min (one.packet_count + other.packet_count) (2 ^ 32 - 1);
  total_queue_time_origin = min (one.total_queue_time_origin + other.total_queue_time_origin) (2 ^ 64 - 1);
  last_emitted = later_of one.last_emitted other.last_emitted;
  first_unsent = earlier_of one.first_unsent other.first_unsent;
  priority = first_of_priorities one.priority other.priority;
}

-- how long the packets waited until now, all together: what they waited until the snapshot, and since then
abbrev pub total_wait : QueueSnapshot → ℕ → ℕ
total_wait s now = min (s.total_queue_time_origin + s.packet_count * (now - s.created_at)) (2 ^ 64 - 1)
