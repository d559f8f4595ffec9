-- What is reported of a source, read off what came from it (RFC 3550, sections 6.4.1, A.3 and A.8).
use Rattle.std.specs.Prelude.{ℕ, ◌+◌, ◌-◌, ◌^◌, min, unwrap_or, if◌then◌else◌, Option, Some, None}
use Rattle.rtp_base.specs.declared.reception_report.ReceptionReport.{ReceptionReport}
use Rattle.repair_core.specs.declared.jitter.TimePoint.{TimePoint}
use Rattle.repair_core.specs.Fresh.{is_fresh, greatest_of}
use Rattle.repair_core.specs.Rounds.{Heard, started_at, came, round, taken}
use Rattle.repair_core.specs.Jitter.{entered, jitter_after, rtp_jitter}
use Rattle.repair_core.specs.Counts.{Counts, counts_report}
pub use Rattle.repair_core.specs.Counts.{expected_of, lost_of, fraction_of, block_of}

-- what a register was told since it was made or cleared: the number it started from, if any, then the packets that came, the
-- numbers that were recovered, the rounds of asking, and the reports, each with the counts it was made of
pub data Reception : Type 0 where
  begun_at : Option ℕ → Reception
  arrived : Reception → (number : ℕ) (point : TimePoint) → Reception
  recovered : Reception → (number : ℕ) → Reception
  asked_at : Reception → (now wait : ℕ) → Reception
  reported : Reception → (expected received : ℕ) → Reception

-- what is kept of the numbers: recovered ones count as taken
abbrev pub heard : Reception → Heard
heard (begun_at o) = started_at o
heard (arrived past n point) = came (heard past) n
heard (recovered past n) = came (heard past) n
heard (asked_at past now wait) = round (heard past) now wait
heard (reported past e r) = heard past

-- the number of the first packet that came
abbrev pub first_in : Reception → Option ℕ
first_in (begun_at o) = None
first_in (arrived past n point) = Some (unwrap_or (first_in past) n)
first_in (recovered past n) = first_in past
first_in (asked_at past now wait) = first_in past
first_in (reported past e r) = first_in past

-- how many packets came whose number was fresh, at most 2^64 - 1. Recovered numbers were not received
abbrev pub received : Reception → ℕ
received (begun_at o) = 0
received (arrived past n point) = if is_fresh (taken (heard past)) n then min (received past + 1) (2 ^ 64 - 1) else received past
received (recovered past n) = received past
received (asked_at past now wait) = received past
received (reported past e r) = received past

-- the packets expected and received at the last report
abbrev pub last_counts : Reception → ℕ × ℕ
last_counts (begun_at o) = (0, 0)
last_counts (arrived past n point) = last_counts past
last_counts (recovered past n) = last_counts past
last_counts (asked_at past now wait) = last_counts past
last_counts (reported past e r) = (e, r)

-- the last packet that entered the jitter, and the jitter
abbrev pub last_point : Reception → Option TimePoint
last_point (begun_at o) = None
last_point (arrived past n point) = entered (last_point past) point
last_point (recovered past n) = last_point past
last_point (asked_at past now wait) = last_point past
last_point (reported past e r) = last_point past

abbrev pub jitter_of : Reception → ℕ
jitter_of (begun_at o) = 0
jitter_of (arrived past n point) = jitter_after (jitter_of past) (last_point past) point
jitter_of (recovered past n) = jitter_of past
jitter_of (asked_at past now wait) = jitter_of past
jitter_of (reported past e r) = jitter_of past

-- what is counted beside the numbers
abbrev pub counts_in : Reception → Counts
counts_in past = record { first = first_in past; received = received past; expected_then = (last_counts past).0; received_then = (last_counts past).1; point = last_point past; jitter = jitter_of past }

abbrev pub jitter_in : Reception → ℕ
jitter_in past = rtp_jitter (last_point past) (jitter_of past)

-- the report, where a packet came
abbrev pub report_of : Reception → Option ReceptionReport
report_of past = counts_report (greatest_of (taken (heard past))) (counts_in past)

abbrev pub after_from : Reception → Option ℕ → Option ℕ → Reception
after_from past (Some first) (Some last) = reported past (expected_of first last) (received past)
after_from past (Some first) None = past
after_from past None o = past

-- what a register was told, after a report
abbrev pub after_report : Reception → Reception
after_report past = after_from past (first_in past) (greatest_of (taken (heard past)))
