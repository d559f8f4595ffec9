-- Ticks: reports, rounds that ask for what is missing (RFC 4585 section 6.2.1), and streams that are paused.
use Rattle.std.specs.Prelude.{ℕ, ◌+◌, ◌-◌, ◌^◌, ◌&&◌, ◌||◌, ◌++◌, Bool, true, false, nat_le, min, if◌then◌else◌, List, [], ◌∷◌, Option, Some, None}
use Rattle.stream_core.specs.Missing.{any_enabled}
use Rattle.stream_core.specs.Pauses.{checked, on_record}
use Rattle.stream_core.specs.Reporting.{any_request, due_mids, incoming_items, incoming_after}
use Rattle.stream_core.specs.Tables.{each}
use Rattle.stream_core.specs.TxRecord.{any_waits, after_timeout as stream_after_timeout}
use Rattle.stream_core.specs.declared.reports.Tick.{Tick}
use Rattle.repair_core.specs.declared.register_nack.TheConstants.{NACK_MIN_INTERVAL}
use Rattle.session_core.specs.Reports.{tick_at, due_senders, after_sender_reports, told_kind}
use Rattle.session_core.specs.SessionRecord.{SessionState, SessionRecord}

-- rounds are at least so many nanoseconds apart
abbrev pub round_interval : ℕ
round_interval = NACK_MIN_INTERVAL

-- a tick is a round where some incoming stream asks for what is missing, and the last round was long enough ago
abbrev pub is_round : ℕ → SessionRecord → Bool
is_round now r = nat_le round_interval (now - r.state.last_round) && any_enabled r.rx

-- the tick at a moment, for the streams of a session
abbrev pub tick_of : ℕ → SessionRecord → Tick
tick_of now r = tick_at now (is_round now r) r.state

-- incoming streams ask their senders for what waits, report, and in a round ask for what is missing, each in order
abbrev pub after_incoming : ℕ → SessionRecord → SessionRecord
after_incoming now r = record r {
  state = record r.state {
    feedback = r.state.feedback ++ incoming_items (tick_of now r) r.rx;
    last_round = if is_round now r then now else r.state.last_round;
  };
  rx = incoming_after (tick_of now r) r.rx;
}

-- and then outgoing streams report
abbrev pub after_outgoing : ℕ → SessionRecord → SessionRecord
after_outgoing now r = record r { state = after_sender_reports now r.state }

-- streams are paused on which nothing came for their threshold, outgoing ones are told their kind, and the packets that were
-- written, and those that are asked for, may leave from now on
abbrev pub after_checks : ℕ → SessionRecord → SessionRecord
after_checks now r = record {
  state = record r.state { tx = each (told_kind r.state.medias) (each (stream_after_timeout now) r.state.tx); released = true };
  rx = each (on_record (checked now)) r.rx;
  known = r.known;
  probes = on_record (checked now) r.probes;
  seen = r.seen;
  repairs = r.repairs;
}

-- a tick: which streams report and ask is said by what was before it
abbrev pub after_timeout : ℕ → SessionRecord → SessionRecord
after_timeout now r = after_checks now (after_outgoing now (after_incoming now r))

-- something is said in a tick: it is a round, the report of some stream is due, or some stream asks its sender for something
abbrev pub is_one : List (List ℕ) → Bool
is_one [] = false
is_one (m ∷ ms) = true

abbrev pub is_spoken : ℕ → SessionRecord → Bool
is_spoken now r =
    is_round now r || (any_request r.rx || (is_one (due_mids r.state.intervals now r.rx) || is_one (due_senders now r.state)))

-- at once, where some stream asks its sender for something
abbrev pub requests_at : SessionRecord → Option ℕ
requests_at r = if any_request r.rx then Some 0 else None

-- when the next round is, where some stream asks for what is missing
abbrev pub round_at : SessionRecord → Option ℕ
round_at r = if any_enabled r.rx then Some (min (r.state.last_round + round_interval) (2 ^ 64 - 1)) else None

-- at once, where some packet was written since the last tick
abbrev pub send_at : SessionState → Option ℕ
send_at s = if any_waits s.tx then Some 0 else None
