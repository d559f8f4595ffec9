-- Runs of a pacer's calls.
use Rattle.std.specs.Prelude.{◌≡◌, ℕ, ◌*◌, ◌==◌, ◌≤◌, ◌&&◌, nat_le, is_some, unwrap_or, option_map, if◌then◌else◌, Bool, true, false, List, [], ◌∷◌, length, take, slice_get, Option, Some, None}
use Rattle.rtp_base.specs.declared.ids.MidRid.{MidRid}
use Rattle.pace_units.specs.declared.queue.QueueState.{QueueState}
use Rattle.pace_units.specs.declared.queue.PaddingRequest.{PaddingRequest}
use Rattle.pace_units.specs.declared.queue.QueuePriority.TheVariants.{Media, Empty}
use Rattle.pace_core.specs.declared.leaky.TheConstants.{MAX_PACKET_IN_TIME}
use Rattle.pace_core.specs.declared.run.TheConstants.{MAX_PACKET}
use Rattle.pace_core.specs.declared.run.PaceQueue.{PaceQueue}
use Rattle.pace_core.specs.declared.run.PaceCall.{PaceCall}
use Rattle.pace_core.specs.declared.run.PaceCall.TheVariants.{Pacing, Padding, Timeout, Poll, Send}
use Rattle.pace_core.specs.declared.log.PaceEntry.{PaceEntry}
use Rattle.pace_core.specs.declared.log.PaceEntry.TheVariants.{Set, Timed, Chose, Idle, Sent}
use Rattle.pace_core.specs.declared.run.PaceError.{PaceError}
use Rattle.pace_core.specs.declared.run.PaceError.TheVariants.{Memory, Call}
use Rattle.pace_core.specs.Answers.{IsWithin, timeline}
use Rattle.pace_core.specs.Past.{Past, made, pacing_set, padding_set, timed, polled, sent, rate_in, debt_in, asked_at, given_in, wake_in, latest_in, waiting_in, sends_in}
use Rattle.pace_core.specs.Sends.{last_of}

-- a queue of a run as a pacer is told of it: paced, of media, and sent on last when the last packet was sent that a poll of it let
-- out
abbrev pub key_of : PaceQueue → MidRid
key_of q = record { 0 = q.mid; 1 = None }

abbrev pub state_of : List (MidRid × ℕ) → ℕ → PaceQueue → QueueState
state_of sends now q = record {
  midrid = key_of q;
  unpaced = false;
  use_for_padding = q.padding;
  snapshot = record {
    created_at = now;
    byte_size = q.bytes;
    packet_count = q.count;
    total_queue_time_origin = q.wait;
    last_emitted = last_of sends (key_of q);
    first_unsent = None;
    priority = if q.count == 0 then Empty else Media;
  };
}

abbrev pub states_of : List (MidRid × ℕ) → ℕ → List PaceQueue → List QueueState
states_of sends now [] = []
states_of sends now (q ∷ qs) = state_of sends now q ∷ states_of sends now qs

-- what a pacer was told, after one more call, and after these. What is sent is of the queue that a poll gave last
abbrev pub no_queue : MidRid
no_queue = record { 0 = []; 1 = None }

abbrev pub timed_with : Past → ℕ → List PaceQueue → Past
timed_with past now queues = timed past now (states_of (sends_in past) now queues)

abbrev pub sent_from : Past → ℕ → ℕ → Past
sent_from past now size = sent past now size (unwrap_or (waiting_in past) no_queue)

abbrev pub told : Past → PaceCall → Past
told past (Pacing rate) = pacing_set past rate
told past (Padding rate) = padding_set past rate
told past (Timeout now queues) = timed_with past now queues
told past Poll = polled past
told past (Send now size) = sent_from past now size

abbrev pub past_of : Past → List PaceCall → Past
past_of past [] = past
past_of past (call ∷ calls) = past_of (told past call) calls

-- what a call answers, and what these answer
abbrev pub timed_of : Option PaddingRequest → Option (List ℕ × ℕ)
timed_of asked = option_map (λ r. (r.midrid.0, r.padding)) asked

abbrev pub timeout_entry : Past → ℕ → List PaceQueue → PaceEntry
timeout_entry past now queues = Timed (timed_of (asked_at past now (states_of (sends_in past) now queues)))

abbrev pub chose : Option (MidRid × Option ℕ) → Option ℕ → PaceEntry
chose (Some given) wake = Chose given.0.0
chose None wake = Idle wake

abbrev pub poll_entry : Past → PaceEntry
poll_entry past = chose (given_in past) (wake_in past).0

abbrev pub send_entry : Past → ℕ → ℕ → PaceEntry
send_entry past now size = Sent (size * 8) (debt_in (sent_from past now size)) (rate_in past)

abbrev pub entry_of : Past → PaceCall → PaceEntry
entry_of past (Pacing rate) = Set
entry_of past (Padding rate) = Set
entry_of past (Timeout now queues) = timeout_entry past now queues
entry_of past Poll = poll_entry past
entry_of past (Send now size) = send_entry past now size

abbrev pub entries : Past → List PaceCall → List PaceEntry
entries past [] = []
entries past (call ∷ calls) = entry_of past call ∷ entries (told past call) calls

-- a call may come: moments do not fall, and what is sent answers a poll that gave a queue
abbrev pub may_come : Past → PaceCall → Bool
may_come past (Pacing rate) = true
may_come past (Padding rate) = true
may_come past (Timeout now queues) = nat_le (latest_in past) now
may_come past Poll = true
may_come past (Send now size) = nat_le (latest_in past) now && is_some (waiting_in past)

abbrev pub may_all_come : Past → List PaceCall → Bool
may_all_come past [] = true
may_all_come past (call ∷ calls) = may_come past call && may_all_come (told past call) calls

-- a packet has at most 2,000 bytes
abbrev pub IsShort : PaceCall → Type 0
IsShort (Send now size) = size ≤ MAX_PACKET
IsShort (Pacing rate) = Unit {0}
IsShort (Padding rate) = Unit {0}
IsShort (Timeout now queues) = Unit {0}
IsShort Poll = Unit {0}

-- why a run ended: for want of memory, or at the first call that may not come
abbrev pub IsCause : ℕ → List PaceCall → PaceError → Type 0
IsCause rate calls Memory = Unit {0}
IsCause rate calls (Call i) =
    (call : PaceCall) × (slice_get calls i ≡ Some call) × (may_all_come (made (Some rate)) (take i calls) ≡ true)
    × (may_come (past_of (made (Some rate)) (take i calls)) call ≡ false)

-- in a log each packet comes after a queue was chosen since the last timeout, with no other packet between
abbrev pub IsPrompt : Bool → List PaceEntry → Type 0
IsPrompt chosen [] = Unit {0}
IsPrompt chosen (Set ∷ log) = IsPrompt chosen log
IsPrompt chosen (Timed asked ∷ log) = IsPrompt false log
IsPrompt chosen (Chose mid ∷ log) = IsPrompt true log
IsPrompt chosen (Idle wake ∷ log) = IsPrompt chosen log
IsPrompt chosen (Sent bits debt rate ∷ log) = (chosen ≡ true) × IsPrompt false log

-- in a log each packet is at most 460 ms at its rate
abbrev pub IsBrief : List PaceEntry → Type 0
IsBrief [] = Unit {0}
IsBrief (Set ∷ log) = IsBrief log
IsBrief (Timed asked ∷ log) = IsBrief log
IsBrief (Chose mid ∷ log) = IsBrief log
IsBrief (Idle wake ∷ log) = IsBrief log
IsBrief (Sent bits debt rate ∷ log) = (bits * 1000000000 ≤ rate * MAX_PACKET_IN_TIME) × IsBrief log

-- what is sent in such a log of the first of these calls is within the bound
abbrev pub KeepsEnvelope : ℕ → List PaceCall → List PaceEntry → Type 0
KeepsEnvelope rate calls log =
    IsPrompt false log → IsBrief log → IsWithin (timeline (past_of (made (Some rate)) (take (length log) calls)))

-- the log is what the first of these calls answer
abbrev pub IsLogOf : ℕ → List PaceCall → List PaceEntry → Type 0
IsLogOf rate calls log = log ≡ entries (made (Some rate)) (take (length log) calls)

-- which calls it is the log of: all of them came, and they are those before the one that may not come
abbrev pub IsLogUntil : ℕ → List PaceCall → PaceError → List PaceEntry → Type 0
IsLogUntil rate calls Memory log = may_all_come (made (Some rate)) (take (length log) calls) ≡ true
IsLogUntil rate calls (Call i) log = length log ≡ i
