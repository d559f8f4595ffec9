-- The bound on what a pacer lets out, read off what it was told.
use Rattle.std.specs.Prelude.{◌≡◌, ℕ, ◌+◌, ◌*◌, ◌≤◌, ◌||◌, not, IsTrue, Bool, true, false, List, [], ◌∷◌, ◌++◌, is_some}
use Rattle.std.specs.List.{list_all}
use Rattle.pace_units.specs.declared.queue.QueueState.{QueueState}
use Rattle.pace_core.specs.declared.leaky.TheConstants.{MAX_PACKET_IN_TIME}
use Rattle.pace_core.specs.Bucket.{Event, timeout, send, burst}
use Rattle.pace_core.specs.Envelope.{amount_of, last_rate, last_moment, drained}
use Rattle.pace_core.specs.Past.{Past, made, pacing_set, padding_set, timed, polled, probe_started, probe_taken, sent, rate_in, chosen_in, probes_in}

-- the timeouts with their rates, and the packets with their amounts, in order
abbrev pub timeline : Past → List Event
timeline (made rate) = []
timeline (pacing_set past rate) = timeline past
timeline (padding_set past rate) = timeline past
timeline (timed past now queues) = timeline past ++ timeout now (rate_in (timed past now queues)) ∷ []
timeline (polled past) = timeline past
timeline (probe_started past config) = timeline past
timeline (probe_taken past) = timeline past
timeline (sent past now size key) = timeline past ++ send (size * 8000000000) ∷ []

-- a packet sent now answers a poll: since the last timeout a poll gave the chosen queue, and nothing was sent after it
abbrev pub is_awaited : Past → Bool
is_awaited (made rate) = false
is_awaited (pacing_set past rate) = is_awaited past
is_awaited (padding_set past rate) = is_awaited past
is_awaited (timed past now queues) = false
is_awaited (polled past) = is_some (chosen_in past) || is_awaited past
is_awaited (probe_started past config) = is_awaited past
is_awaited (probe_taken past) = is_awaited past
is_awaited (sent past now size key) = false

-- each packet answers a poll since the last timeout
abbrev pub AreAnswers : Past → Type 0
AreAnswers (made rate) = Unit {0}
AreAnswers (pacing_set past rate) = AreAnswers past
AreAnswers (padding_set past rate) = AreAnswers past
AreAnswers (timed past now queues) = AreAnswers past
AreAnswers (polled past) = AreAnswers past
AreAnswers (probe_started past config) = AreAnswers past
AreAnswers (probe_taken past) = AreAnswers past
AreAnswers (sent past now size key) = (is_awaited past ≡ true) × AreAnswers past

-- each packet is at most 460 ms at the rate of the timeout before it
abbrev pub AreShort : Past → Type 0
AreShort (made rate) = Unit {0}
AreShort (pacing_set past rate) = AreShort past
AreShort (padding_set past rate) = AreShort past
AreShort (timed past now queues) = AreShort past
AreShort (polled past) = AreShort past
AreShort (probe_started past config) = AreShort past
AreShort (probe_taken past) = AreShort past
AreShort (sent past now size key) = (size * 8000000000 ≤ rate_in past * MAX_PACKET_IN_TIME) × AreShort past

-- at each timeout no queue is unpaced and no cluster runs
abbrev pub are_paced : List QueueState → Bool
are_paced queues = list_all (λ q. not q.unpaced) queues

abbrev pub IsPaced : Past → Type 0
IsPaced (made rate) = Unit {0}
IsPaced (pacing_set past rate) = IsPaced past
IsPaced (padding_set past rate) = IsPaced past
IsPaced (timed past now queues) = IsTrue (are_paced queues) × ((probes_in past).running ≡ []) × IsPaced past
IsPaced (polled past) = IsPaced past
IsPaced (probe_started past config) = IsPaced past
IsPaced (probe_taken past) = IsPaced past
IsPaced (sent past now size key) = IsPaced past

-- from one packet to another, both included, no more is sent than rate times elapsed from the timeout before the first to the
-- timeout before the last, and the burst at the last, and the last packet
abbrev pub IsWithin : List Event → Type 0
IsWithin events =
    (before between later : List Event) (first last : ℕ) → events ≡ before ++ send first ∷ (between ++ send last ∷ later)
    → amount_of (send first ∷ (between ++ send last ∷ []))
    ≤ drained (last_rate 0 before) (last_moment 0 before) between + burst (last_rate (last_rate 0 before) between) + last

abbrev pub AnswersAreWithin : Type 0
AnswersAreWithin = (past : Past) → IsPaced past → AreAnswers past → AreShort past → IsWithin (timeline past)
