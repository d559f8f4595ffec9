-- What a pacer answers, read off what it was told: rules of the leaky bucket.
use Rattle.std.specs.Prelude.{ℕ, ◌+◌, ◌-◌, ◌*◌, ◌/◌, ◌==◌, ◌&&◌, ◌||◌, not, nat_lt, nat_le, min, max, Bool, true, false, if◌then◌else◌, List, Option, Some, None, is_some, option_map, unwrap_or, [], ◌∷◌, ◌++◌, slice_get}
use Rattle.rtp_base.specs.declared.ids.MidRid.{MidRid}
use Rattle.pace_units.specs.declared.queue.QueueState.{QueueState}
use Rattle.pace_units.specs.declared.queue.PaddingRequest.{PaddingRequest}
use Rattle.pace_units.specs.declared.reason.PacerReason.{PacerReason}
use Rattle.pace_units.specs.declared.reason.PacerReason.TheVariants.{Handle, Probe1, Probe2, Paced, Padding, Immediate}
use Rattle.pace_units.specs.declared.reason.Reason.{Reason}
use Rattle.pace_units.specs.declared.reason.Reason.TheVariants.{NotHappening, Pacer}
use Rattle.pace_units.specs.declared.cluster.ProbeClusterState.{ProbeClusterState}
use Rattle.pace_units.specs.declared.probe.ProbeClusterConfig.{ProbeClusterConfig}
use Rattle.pace_units.specs.Cluster.{new_cluster, is_complete, next_time, should_send, after_ask, asked_size, recorded}
use Rattle.pace_units.specs.Moments.{moved, drain_time}
use Rattle.pace_core.specs.declared.leaky.TheConstants.{MAX_DEBT_IN_TIME, PADDING_BURST_INTERVAL, PACING, MINIMAL_DELTA}
use Rattle.pace_core.specs.Bucket.{burst}
use Rattle.pace_core.specs.Probes.{Probes}
use Rattle.pace_core.specs.Queues.{are_empty, adjusted, first_holding, unpaced_from, turn_from, padding_from}
use Rattle.pace_core.specs.Sends.{with_send, last_of}

-- what a pacer was told since it was made, with a rate where it is a leaky bucket and with none where it is a null pacer: rates
-- that were set, timeouts with the states of the queues, polls, clusters of probes that were started, asked whether one ended,
-- and packets that were sent, each at a moment, with its bytes and from its queue
pub data Past : Type 0 where
  made : (rate : Option ℕ) → Past
  pacing_set : Past → (rate : ℕ) → Past
  padding_set : Past → (rate : ℕ) → Past
  timed : Past → (now : ℕ) (queues : List QueueState) → Past
  polled : Past → Past
  probe_started : Past → (config : ProbeClusterConfig) → Past
  probe_taken : Past → Past
  sent : Past → (now size : ℕ) (key : MidRid) → Past

-- whether it is a leaky bucket
abbrev pub is_leaky : Past → Bool
is_leaky (made rate) = is_some rate
is_leaky (pacing_set past rate) = is_leaky past
is_leaky (padding_set past rate) = is_leaky past
is_leaky (timed past now queues) = is_leaky past
is_leaky (polled past) = is_leaky past
is_leaky (probe_started past config) = is_leaky past
is_leaky (probe_taken past) = is_leaky past
is_leaky (sent past now size key) = is_leaky past

-- the rates that were set last
abbrev pub pacing_in : Past → ℕ
pacing_in (made rate) = unwrap_or rate 0
pacing_in (pacing_set past rate) = rate
pacing_in (padding_set past rate) = pacing_in past
pacing_in (timed past now queues) = pacing_in past
pacing_in (polled past) = pacing_in past
pacing_in (probe_started past config) = pacing_in past
pacing_in (probe_taken past) = pacing_in past
pacing_in (sent past now size key) = pacing_in past

abbrev pub padding_in : Past → ℕ
padding_in (made rate) = 0
padding_in (pacing_set past rate) = padding_in past
padding_in (padding_set past rate) = rate
padding_in (timed past now queues) = padding_in past
padding_in (polled past) = padding_in past
padding_in (probe_started past config) = padding_in past
padding_in (probe_taken past) = padding_in past
padding_in (sent past now size key) = padding_in past

-- a timeout asks the first cluster where nothing is held, and drops all where padding may be asked of no queue
abbrev pub asked_first : List ProbeClusterState → ℕ → List ProbeClusterState
asked_first [] now = []
asked_first (c ∷ cs) now = (if should_send c now then after_ask c now else c) ∷ cs

-- the size that it asks for
abbrev pub asked_by : Option ProbeClusterState → ℕ → Option ℕ
asked_by None now = None
asked_by (Some c) now = if should_send c now then asked_size c now else None

abbrev pub clusters_at : List ProbeClusterState → ℕ → Bool → List QueueState → List ProbeClusterState
clusters_at cs now empty queues =
    if empty then (if is_some (padding_from None queues) then asked_first cs now else []) else cs

-- a packet counts for the first cluster, which ends where it is complete
abbrev pub clusters_sent : List ProbeClusterState → ℕ → ℕ → List ProbeClusterState
clusters_sent [] now size = []
clusters_sent (c ∷ cs) now size = if is_complete (recorded c now size) then cs else recorded c now size ∷ cs

abbrev pub ended_by : Option ℕ → List ProbeClusterState → ℕ → ℕ → Option ℕ
ended_by ended [] now size = ended
ended_by ended (c ∷ cs) now size = if is_complete (recorded c now size) then Some c.config.cluster else ended

-- a cluster that ended is told once; where none did, the first is looked at
abbrev pub clusters_told : Option ℕ → List ProbeClusterState → List ProbeClusterState
clusters_told (Some id) cs = cs
clusters_told None [] = []
clusters_told None (c ∷ cs) = if is_complete c then cs else c ∷ cs

abbrev pub told_of : Option ℕ → List ProbeClusterState → Option ℕ
told_of (Some id) cs = Some id
told_of None [] = None
told_of None (c ∷ cs) = if is_complete c then Some c.config.cluster else None

-- the clusters that run or wait, and the last that ended and was not told
abbrev pub probes_in : Past → Probes
probes_in (made rate) = record { running = []; ended = None }
probes_in (pacing_set past rate) = probes_in past
probes_in (padding_set past rate) = probes_in past
probes_in (timed past now queues) = record (probes_in past) { running = clusters_at (probes_in past).running now (are_empty queues) queues }
probes_in (polled past) = probes_in past
probes_in (probe_started past config) = record (probes_in past) { running = (probes_in past).running ++ new_cluster config ∷ [] }
probes_in (probe_taken past) = record { running = clusters_told (probes_in past).ended (probes_in past).running; ended = None }
probes_in (sent past now size key) = record {
  running = clusters_sent (probes_in past).running now size;
  ended = ended_by (probes_in past).ended (probes_in past).running now size;
}

-- the cluster that runs, and its number
abbrev pub active_in : Past → Option ProbeClusterState
active_in past = slice_get (probes_in past).running 0

abbrev pub number_of : Option ProbeClusterState → Option ℕ
number_of active = option_map (λ c. c.config.cluster) active

-- the cluster that a question whether one ended is answered by
abbrev pub ended_in : Past → Option ℕ
ended_in past = told_of (probes_in past).ended (probes_in past).running

-- the rate without queues: that of the cluster that runs, else the pacing rate
abbrev pub base_of : ℕ → Option ProbeClusterState → ℕ
base_of pacing None = pacing
base_of pacing (Some c) = c.config.target_bitrate

-- the rate of the last timeout, and its moment
abbrev pub rate_in : Past → ℕ
rate_in (made rate) = 0
rate_in (pacing_set past rate) = rate_in past
rate_in (padding_set past rate) = rate_in past
rate_in (timed past now queues) = adjusted (base_of (pacing_in past) (active_in past)) queues now
rate_in (polled past) = rate_in past
rate_in (probe_started past config) = rate_in past
rate_in (probe_taken past) = rate_in past
rate_in (sent past now size key) = rate_in past

abbrev pub since_in : Past → Option ℕ
since_in (made rate) = None
since_in (pacing_set past rate) = since_in past
since_in (padding_set past rate) = since_in past
since_in (timed past now queues) = Some now
since_in (polled past) = since_in past
since_in (probe_started past config) = since_in past
since_in (probe_taken past) = since_in past
since_in (sent past now size key) = since_in past

-- the time that passed since a timeout, if there was one
abbrev pub passed : Option ℕ → ℕ → ℕ
passed None now = 0
passed (Some before) now = now - before

-- whether anything was ever sent
abbrev pub has_sent : Past → Bool
has_sent (made rate) = false
has_sent (pacing_set past rate) = has_sent past
has_sent (padding_set past rate) = has_sent past
has_sent (timed past now queues) = has_sent past
has_sent (polled past) = has_sent past
has_sent (probe_started past config) = has_sent past
has_sent (probe_taken past) = has_sent past
has_sent (sent past now size key) = true

-- what is owed, in billionths of a bit. A timeout takes away the rate of the timeout before it times the time since; a packet
-- adds its bits, and then no more is owed than 500 ms at the rate
abbrev pub debt_in : Past → ℕ
debt_in (made rate) = 0
debt_in (pacing_set past rate) = debt_in past
debt_in (padding_set past rate) = debt_in past
debt_in (timed past now queues) = debt_in past - rate_in past * passed (since_in past) now
debt_in (polled past) = debt_in past
debt_in (probe_started past config) = debt_in past
debt_in (probe_taken past) = debt_in past
debt_in (sent past now size key) = min (debt_in past + size * 8000000000) (rate_in past * MAX_DEBT_IN_TIME)

-- what is owed for padding: alike, at the padding rate that was set last
abbrev pub padding_debt_in : Past → ℕ
padding_debt_in (made rate) = 0
padding_debt_in (pacing_set past rate) = padding_debt_in past
padding_debt_in (padding_set past rate) = padding_debt_in past
padding_debt_in (timed past now queues) = padding_debt_in past - padding_in past * passed (since_in past) now
padding_debt_in (polled past) = padding_debt_in past
padding_debt_in (probe_started past config) = padding_debt_in past
padding_debt_in (probe_taken past) = padding_debt_in past
padding_debt_in (sent past now size key) = min (padding_debt_in past + size * 8000000000) (padding_in past * MAX_DEBT_IN_TIME)

-- the queues that were sent on, each with the moment of its last packet
abbrev pub sends_in : Past → List (MidRid × ℕ)
sends_in (made rate) = []
sends_in (pacing_set past rate) = sends_in past
sends_in (padding_set past rate) = sends_in past
sends_in (timed past now queues) = sends_in past
sends_in (polled past) = sends_in past
sends_in (probe_started past config) = sends_in past
sends_in (probe_taken past) = sends_in past
sends_in (sent past now size key) = with_send (sends_in past) key now

-- when a queue was sent on last
abbrev pub last_sent_in : Past → MidRid → Option ℕ
last_sent_in past key = last_of (sends_in past) key

-- the queue that padding is asked of, and how many bytes: 5 ms at the padding rate, where nothing is held and nothing owed
abbrev pub asks : ℕ → QueueState → PaddingRequest
asks padding q = record { midrid = q.midrid; padding = padding * PADDING_BURST_INTERVAL / 8000000000 }

abbrev pub may_ask : ℕ → ℕ → ℕ → Bool
may_ask debt padding_debt padding = debt == 0 && (padding_debt == 0 && not (padding == 0))

abbrev pub asked_for : ℕ → ℕ → ℕ → Option ProbeClusterState → ℕ → Option QueueState → Option PaddingRequest
asked_for debt padding_debt padding active now None = None
asked_for debt padding_debt padding None now (Some q) = if may_ask debt padding_debt padding then Some (asks padding q) else None
asked_for debt padding_debt padding (Some c) now (Some q) = option_map (λ size. record { midrid = q.midrid; padding = size }) (asked_by (Some c) now)

abbrev pub asked_of : ℕ → ℕ → ℕ → Option ProbeClusterState → ℕ → Bool → List QueueState → Option PaddingRequest
asked_of debt padding_debt padding active now empty queues =
    if empty then asked_for debt padding_debt padding active now (padding_from None queues) else None

-- a queue that is let out, if any, and when something is let out or padding is asked for next, if that can be told
pub record Turn : Type 0 where
  pub queue : Option MidRid
  pub moment : Option (ℕ × PacerReason)

abbrev pub key_of : Option QueueState → Option MidRid
key_of queue = option_map (λ q. q.midrid) queue

-- at a rate above 0 the queue whose turn it is is let out at once where less than the burst is owed, else when the debt is drained;
-- with a cluster, at its next time
abbrev pub turn_moment : ℕ → ℕ → Option ProbeClusterState → ℕ → ℕ × PacerReason
turn_moment debt rate (Some c) now = (next_time c, Probe1)
turn_moment debt rate None now = (if nat_lt debt (burst rate) then now else moved now (drain_time debt rate), Paced)

abbrev pub may_pass : ℕ → ℕ → Option ProbeClusterState → ℕ → Bool
may_pass debt rate None now = nat_lt debt (burst rate)
may_pass debt rate (Some c) now = nat_le (next_time c) now

abbrev pub paced_turn : ℕ → ℕ → Option ProbeClusterState → ℕ → List QueueState → Turn
paced_turn debt rate active now queues = record {
  queue = if may_pass debt rate active now then key_of (turn_from None queues) else None;
  moment = Some (turn_moment debt rate active now);
}

-- when padding is asked for next, where it may be asked of a queue: with a cluster at its next time; else, at rates above 0, when
-- both debts are drained, at least 1,000 ns on
abbrev pub drained_moment : ℕ → ℕ → ℕ → ℕ → ℕ → Option (ℕ × PacerReason)
drained_moment debt padding_debt rate padding now =
    if not (rate == 0) && not (padding == 0)
    then Some (moved now (max (max (drain_time debt rate) (drain_time padding_debt padding)) MINIMAL_DELTA), Padding)
    else None

abbrev pub padding_moment : ℕ → ℕ → ℕ → ℕ → Option ProbeClusterState → ℕ → Option (ℕ × PacerReason)
padding_moment debt padding_debt rate padding (Some c) now = Some (next_time c, Probe2)
padding_moment debt padding_debt rate padding None now = drained_moment debt padding_debt rate padding now

abbrev pub padding_turn : ℕ → ℕ → ℕ → ℕ → Option ProbeClusterState → ℕ → List QueueState → Turn
padding_turn debt padding_debt rate padding active now queues = record {
  queue = None;
  moment = if is_some (padding_from None queues) then padding_moment debt padding_debt rate padding active now else None;
}

-- where no queue is unpaced
abbrev pub other_turn : ℕ → ℕ → ℕ → ℕ → Option ProbeClusterState → ℕ → Bool → List QueueState → Option QueueState → Turn
other_turn debt padding_debt rate padding active now empty queues (Some q) = record { queue = Some q.midrid; moment = None }
other_turn debt padding_debt rate padding active now empty queues None =
    if not empty && not (rate == 0) then paced_turn debt rate active now queues
    else padding_turn debt padding_debt rate padding active now queues

-- before anything was sent the first queue that holds packets; else an unpaced one; else the one whose turn it is
abbrev pub turn_of : Bool → ℕ → ℕ → ℕ → ℕ → Option ProbeClusterState → ℕ → Bool → List QueueState → Turn
turn_of begun debt padding_debt rate padding active now empty queues =
    if not begun && not empty then record { queue = key_of (first_holding queues); moment = None }
    else other_turn debt padding_debt rate padding active now empty queues (unpaced_from None queues)

-- where padding is asked for, the queue asked is the one that is let out, and no other moment is waited for
abbrev pub chosen_turn : Option PaddingRequest → Turn → Turn
chosen_turn (Some request) turn = record { queue = Some request.midrid; moment = None }
chosen_turn None turn = turn

-- what a timeout asks for, and the queue that it lets out
abbrev pub asked_at : Past → ℕ → List QueueState → Option PaddingRequest
asked_at past now queues =
    asked_of (debt_in (timed past now queues)) (padding_debt_in (timed past now queues)) (padding_in past) (active_in past) now (are_empty queues) queues

abbrev pub turn_at : Past → ℕ → List QueueState → Turn
turn_at past now queues =
    chosen_turn (asked_at past now queues)
    (turn_of (has_sent past) (debt_in (timed past now queues)) (padding_debt_in (timed past now queues)) (rate_in (timed past now queues)) (padding_in past) (active_in (timed past now queues)) now (are_empty queues) queues)

-- the queue that the last timeout chose, until it is polled
abbrev pub chosen_in : Past → Option MidRid
chosen_in (made rate) = None
chosen_in (pacing_set past rate) = chosen_in past
chosen_in (padding_set past rate) = chosen_in past
chosen_in (timed past now queues) = (turn_at past now queues).queue
chosen_in (polled past) = None
chosen_in (probe_started past config) = chosen_in past
chosen_in (probe_taken past) = chosen_in past
chosen_in (sent past now size key) = chosen_in past

-- what a poll gives: that queue, and the number of the cluster that runs
abbrev pub given_by : Option MidRid → Option ProbeClusterState → Option (MidRid × Option ℕ)
given_by chosen active = option_map (λ key. (key, number_of active)) chosen

abbrev pub given_in : Past → Option (MidRid × Option ℕ)
given_in past = given_by (chosen_in past) (active_in past)

-- the latest moment that was told, where moments do not fall
abbrev pub latest_in : Past → ℕ
latest_in (made rate) = 0
latest_in (pacing_set past rate) = latest_in past
latest_in (padding_set past rate) = latest_in past
latest_in (timed past now queues) = now
latest_in (polled past) = latest_in past
latest_in (probe_started past config) = latest_in past
latest_in (probe_taken past) = latest_in past
latest_in (sent past now size key) = now

-- the later of two choices, if there is one
abbrev pub newest : Option MidRid → Option MidRid → Option MidRid
newest (Some key) before = Some key
newest None before = before

-- the queue that a poll gave last, until a packet is sent
abbrev pub waiting_in : Past → Option MidRid
waiting_in (made rate) = None
waiting_in (pacing_set past rate) = waiting_in past
waiting_in (padding_set past rate) = waiting_in past
waiting_in (timed past now queues) = waiting_in past
waiting_in (polled past) = newest (chosen_in past) (waiting_in past)
waiting_in (probe_started past config) = waiting_in past
waiting_in (probe_taken past) = waiting_in past
waiting_in (sent past now size key) = None

-- a poll gave the queue that the last timeout chose
abbrev pub was_polled : Past → Bool
was_polled (made rate) = false
was_polled (pacing_set past rate) = was_polled past
was_polled (padding_set past rate) = was_polled past
was_polled (timed past now queues) = false
was_polled (polled past) = is_some (chosen_in past) || was_polled past
was_polled (probe_started past config) = was_polled past
was_polled (probe_taken past) = was_polled past
was_polled (sent past now size key) = was_polled past

-- when something is let out or padding asked for next, told at the last timeout
abbrev pub moment_in : Past → Option (ℕ × PacerReason)
moment_in (made rate) = None
moment_in (pacing_set past rate) = moment_in past
moment_in (padding_set past rate) = moment_in past
moment_in (timed past now queues) = (turn_at past now queues).moment
moment_in (polled past) = moment_in past
moment_in (probe_started past config) = moment_in past
moment_in (probe_taken past) = moment_in past
moment_in (sent past now size key) = moment_in past

-- when the pacer wants the next timeout, and why: 40 ms after the last one, or at an earlier moment; 1,000 ns after it once a poll
-- gave a queue
abbrev pub moment_or_poll : Bool → ℕ → Option (ℕ × PacerReason) → Option (ℕ × PacerReason)
moment_or_poll true since moment = Some (moved since MINIMAL_DELTA, Immediate)
moment_or_poll false since moment = moment

abbrev pub earlier_wake : ℕ → Option (ℕ × PacerReason) → Option ℕ × Reason
earlier_wake regular None = (Some regular, Pacer Handle)
earlier_wake regular (Some moment) = if nat_lt regular moment.0 then (Some regular, Pacer Handle) else (Some moment.0, Pacer moment.1)

abbrev pub wake_of : Bool → Option ℕ → Option (ℕ × PacerReason) → Option ℕ × Reason
wake_of gave None moment = (None, NotHappening)
wake_of gave (Some since) moment = earlier_wake (moved since PACING) (moment_or_poll gave since moment)

abbrev pub wake_in : Past → Option ℕ × Reason
wake_in past = wake_of (was_polled past) (since_in past) (moment_in past)
