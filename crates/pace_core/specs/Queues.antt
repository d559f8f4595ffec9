-- What is read off the states of queues at a timeout.
use Rattle.std.specs.Prelude.{ℕ, ◌+◌, ◌-◌, ◌*◌, ◌/◌, ◌==◌, ◌&&◌, ◌||◌, not, is_none, nat_lt, min, max, Bool, true, false, if◌then◌else◌, List, [], ◌∷◌, Option, Some, None}
use Rattle.media_units.specs.declared.rate.TheConstants.{GREATEST_RATE}
use Rattle.pace_units.specs.Queue.{rank_of, total_wait}
use Rattle.pace_units.specs.declared.queue.QueueState.{QueueState}
use Rattle.pace_core.specs.declared.queues.TheConstants.{QUEUE_LIMIT, SHORTEST_DRAIN}

-- the packets that are held, their bytes, and how long they waited until now, all together
abbrev pub packets_in : List QueueState → ℕ
packets_in [] = 0
packets_in (q ∷ qs) = q.snapshot.packet_count + packets_in qs

abbrev pub bytes_in : List QueueState → ℕ
bytes_in [] = 0
bytes_in (q ∷ qs) = q.snapshot.byte_size + bytes_in qs

abbrev pub wait_in : List QueueState → ℕ → ℕ
wait_in [] now = 0
wait_in (q ∷ qs) now = total_wait q.snapshot now + wait_in qs now

-- no packet is held
abbrev pub are_empty : List QueueState → Bool
are_empty qs = packets_in qs == 0

-- how long the queues may take to drain: what is left of 2 s after the mean wait of a packet, at least 1 ms
abbrev pub drain_of : ℕ → ℕ → ℕ
drain_of packets waited = max (QUEUE_LIMIT - waited / packets) SHORTEST_DRAIN

-- a rate that is needed, where it is above the base, at most 10,000,000,000 bits a second
abbrev pub raised : ℕ → ℕ → ℕ
raised base needed = if nat_lt base needed then min needed GREATEST_RATE else base

-- the rate at which so many packets, so many bytes, that waited so long together, are drained in time
abbrev pub rate_for : ℕ → ℕ → ℕ → ℕ → ℕ
rate_for base packets bytes waited =
    if packets == 0 then base else raised base (bytes * 8000000000 / drain_of packets waited)

-- the rate that drains the queues in time
abbrev pub adjusted : ℕ → List QueueState → ℕ → ℕ
adjusted base qs now = rate_for base (packets_in qs) (bytes_in qs) (wait_in qs now)

-- one moment is before another; none is before every moment
abbrev pub is_before : Option ℕ → Option ℕ → Bool
is_before None None = false
is_before None (Some y) = true
is_before (Some x) None = false
is_before (Some x) (Some y) = nat_lt x y

-- the first queue that holds packets
abbrev pub first_holding : List QueueState → Option QueueState
first_holding [] = None
first_holding (q ∷ qs) = if q.snapshot.packet_count == 0 then first_holding qs else Some q

-- of the unpaced queues that hold packets and one that was not sent, the one whose first waits longest; of equals the first
abbrev pub longer : Option QueueState → QueueState → Option QueueState
longer None q = Some q
longer (Some best) q = if is_before q.snapshot.first_unsent best.snapshot.first_unsent then Some q else Some best

abbrev pub with_unpaced : Option QueueState → QueueState → Option QueueState
with_unpaced best q =
    if q.snapshot.packet_count == 0 || not q.unpaced || is_none q.snapshot.first_unsent then best else longer best q

abbrev pub unpaced_from : Option QueueState → List QueueState → Option QueueState
unpaced_from best [] = best
unpaced_from best (q ∷ qs) = unpaced_from (with_unpaced best q) qs

-- of the queues that hold packets the one that is least by what they are and then by the last packet sent; of equals the first
abbrev pub goes_first : QueueState → QueueState → Bool
goes_first one other =
    nat_lt (rank_of one.snapshot.priority) (rank_of other.snapshot.priority)
    || (rank_of one.snapshot.priority == rank_of other.snapshot.priority && is_before one.snapshot.last_emitted other.snapshot.last_emitted)

abbrev pub sooner : Option QueueState → QueueState → Option QueueState
sooner None q = Some q
sooner (Some best) q = if goes_first q best then Some q else Some best

abbrev pub with_turn : Option QueueState → QueueState → Option QueueState
with_turn best q = if q.snapshot.packet_count == 0 then best else sooner best q

abbrev pub turn_from : Option QueueState → List QueueState → Option QueueState
turn_from best [] = best
turn_from best (q ∷ qs) = turn_from (with_turn best q) qs

-- of the queues for padding the one that was sent on last; of equals the last
abbrev pub later : Option QueueState → QueueState → Option QueueState
later None q = Some q
later (Some best) q = if is_before q.snapshot.last_emitted best.snapshot.last_emitted then Some best else Some q

abbrev pub with_padding : Option QueueState → QueueState → Option QueueState
with_padding best q = if q.use_for_padding then later best q else best

abbrev pub padding_from : Option QueueState → List QueueState → Option QueueState
padding_from best [] = best
padding_from best (q ∷ qs) = padding_from (with_padding best q) qs
