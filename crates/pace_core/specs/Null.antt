-- What a null pacer answers, read off what it was told.
use Rattle.std.specs.Prelude.{◌≡◌, ℕ, ◌+◌, ◌-◌, ◌==◌, ◌&&◌, not, Bool, true, if◌then◌else◌, List, [], ◌∷◌, Option, Some, None, option_map, slice_get, slice_set}
use Rattle.rtp_base.specs.declared.ids.MidRid.{MidRid}
use Rattle.pace_units.specs.declared.queue.QueueState.{QueueState}
use Rattle.pace_units.specs.declared.queue.PaddingRequest.{PaddingRequest}
use Rattle.pace_units.specs.declared.reason.PacerReason.TheVariants.{Handle}
use Rattle.pace_units.specs.declared.reason.Reason.{Reason}
use Rattle.pace_units.specs.declared.reason.Reason.TheVariants.{Pacer}
use Rattle.pace_core.specs.declared.null.NullQueue.{NullQueue}
use Rattle.pace_core.specs.declared.null.Candidate.{Candidate}
use Rattle.pace_core.specs.Past.{Past, made, pacing_set, padding_set, timed, polled, probe_started, probe_taken, sent, sends_in}
use Rattle.pace_core.specs.Queues.{is_before}
use Rattle.pace_core.specs.Sends.{same_queue, last_of}

-- the queues of a timeout, each with its packets and when it was sent on last
abbrev pub null_queue : List (MidRid × ℕ) → QueueState → NullQueue
null_queue sends q = record {
  midrid = q.midrid;
  packet_count = q.snapshot.packet_count;
  created_at = q.snapshot.created_at;
  last_sent = last_of sends q.midrid;
}

abbrev pub null_queues : List (MidRid × ℕ) → List QueueState → List NullQueue
null_queues sends [] = []
null_queues sends (q ∷ qs) = null_queue sends q ∷ null_queues sends qs

-- at each of these queues stands when it was sent on last
abbrev pub AreNoted : List (MidRid × ℕ) → List NullQueue → Type 0
AreNoted sends [] = Unit {0}
AreNoted sends (q ∷ qs) = (q.last_sent ≡ last_of sends q.midrid) × AreNoted sends qs

-- a queue that was sent on
abbrev pub marked_one : MidRid → ℕ → NullQueue → NullQueue
marked_one key now q = if same_queue q.midrid key then record q { last_sent = Some now } else q

abbrev pub marked : MidRid → ℕ → List NullQueue → List NullQueue
marked key now [] = []
marked key now (q ∷ qs) = marked_one key now q ∷ marked key now qs

-- of the queues that hold packets the least recently sent one, by its place: one that was never sent on goes before all that were,
-- and of equals the first
abbrev pub goes_first : Option Candidate → NullQueue → Bool
goes_first None q = true
goes_first (Some best) q = is_before q.last_sent best.last_sent

abbrev pub with_least : Option Candidate → ℕ → NullQueue → Option Candidate
with_least best i q =
    if not (q.packet_count == 0) && goes_first best q then Some (record { place = i; last_sent = q.last_sent }) else best

abbrev pub least_from : Option Candidate → ℕ → List NullQueue → Option Candidate
least_from best i [] = best
least_from best i (q ∷ qs) = least_from (with_least best i q) (i + 1) qs

-- the queue at a place
abbrev pub chosen_at : List NullQueue → Option Candidate → Option NullQueue
chosen_at qs None = None
chosen_at qs (Some best) = slice_get qs best.place

abbrev pub chosen_of : List NullQueue → Option NullQueue
chosen_of qs = chosen_at qs (least_from None 0 qs)

-- without the packet that is polled
abbrev pub lowered_at : List NullQueue → Option Candidate → Option NullQueue → List NullQueue
lowered_at qs (Some best) (Some q) = slice_set qs best.place (record q { packet_count = q.packet_count - 1 })
lowered_at qs (Some best) None = qs
lowered_at qs None q = qs

abbrev pub lowered : List NullQueue → List NullQueue
lowered qs = lowered_at qs (least_from None 0 qs) (chosen_of qs)

-- the queues of the last timeout, with the packets that were not polled since
abbrev pub queues_in : Past → List NullQueue
queues_in (made rate) = []
queues_in (pacing_set past rate) = queues_in past
queues_in (padding_set past rate) = queues_in past
queues_in (timed past now queues) = null_queues (sends_in past) queues
queues_in (polled past) = lowered (queues_in past)
queues_in (probe_started past config) = queues_in past
queues_in (probe_taken past) = queues_in past
queues_in (sent past now size key) = marked key now (queues_in past)

-- what a poll gives: a queue, and never a cluster
abbrev pub given_in : Past → Option (MidRid × Option ℕ)
given_in past = option_map (λ q. (q.midrid, None)) (chosen_of (queues_in past))

-- when the pacer wants the next timeout: when the snapshot of the queue was made that was polled last, until a packet is sent or
-- the next timeout
abbrev pub moment_after : Option NullQueue → Option ℕ → Option ℕ
moment_after (Some q) before = Some q.created_at
moment_after None before = before

abbrev pub unsent_in : Past → Option ℕ
unsent_in (made rate) = None
unsent_in (pacing_set past rate) = unsent_in past
unsent_in (padding_set past rate) = unsent_in past
unsent_in (timed past now queues) = None
unsent_in (polled past) = moment_after (chosen_of (queues_in past)) (unsent_in past)
unsent_in (probe_started past config) = unsent_in past
unsent_in (probe_taken past) = unsent_in past
unsent_in (sent past now size key) = None

abbrev pub wake_in : Past → Option ℕ × Reason
wake_in past = (unsent_in past, Pacer Handle)

-- it never asks for padding
abbrev pub asks_none : Past → ℕ → List QueueState → Option PaddingRequest
asks_none past now queues = None
