-- What is counted of the packets of a source beside which numbers came (RFC 3550, sections 6.4.1, A.3 and A.8).
use Rattle.std.specs.Prelude.{ℕ, ◌+◌, ◌-◌, ◌*◌, ◌/◌, ◌%◌, ◌^◌, ◌==◌, ℤ, pos, ◌-ℤ◌, nat_le, min, unwrap_or, if◌then◌else◌, Bool, Option, Some, None}
use Rattle.rtp_base.specs.declared.reception_report.ReceptionReport.{ReceptionReport}
use Rattle.repair_core.specs.declared.counts.TheConstants.{MAX_POSITIVE_LOSS, MAX_NEGATIVE_LOSS}
use Rattle.repair_core.specs.declared.jitter.TimePoint.{TimePoint}
use Rattle.repair_core.specs.Jitter.{entered, jitter_after, rtp_jitter}

-- the number of the first packet that came; how many packets came whose number was fresh, at most 2^64 - 1; the packets expected
-- and received at the last report; the last packet that entered the jitter, and the jitter
pub record Counts : Type 0 where
  pub first : Option ℕ
  pub received : ℕ
  pub expected_then : ℕ
  pub received_then : ℕ
  pub point : Option TimePoint
  pub jitter : ℕ

-- the counts of a source of which nothing came
abbrev pub no_counts : Counts
no_counts = record { first = None; received = 0; expected_then = 0; received_then = 0; point = None; jitter = 0 }

-- a packet enters the jitter alone
abbrev pub after_point : TimePoint → Counts → Counts
after_point point c = record c { point = entered c.point point; jitter = jitter_after c.jitter c.point point }

-- a packet came under a number, which was fresh or not
abbrev pub counted : ℕ → (fresh : Bool) → TimePoint → Counts → Counts
counted n fresh point c =
    record (after_point point c) { first = Some (unwrap_or c.first n); received = if fresh then min (c.received + 1) (2 ^ 64 - 1) else c.received }

-- a report was made of so many packets expected and received
abbrev pub told : (expected received : ℕ) → Counts → Counts
told expected received c = record c { expected_then = expected; received_then = received }

-- how many packets are expected from the first number to the last
abbrev pub expected_of : ℕ → ℕ → ℕ
expected_of first last = last - first + 1

-- the packets lost, in 24 signed bits: from -0x800000 to 0x7fffff
abbrev pub lost_of : ℕ → ℕ → ℤ
lost_of expected received =
    if nat_le received expected then pos (min (expected - received) MAX_POSITIVE_LOSS) else (pos 0 -ℤ pos (min (received - expected) MAX_NEGATIVE_LOSS))

-- how many were lost since the last counts
abbrev pub lost_since : ℕ × ℕ → ℕ → ℕ → ℕ
lost_since last expected received = (expected - last.0) + last.1 - received

-- the share of what was expected since the last counts that was lost, in 256ths, at most 255
abbrev pub fraction_of : ℕ × ℕ → ℕ → ℕ → ℕ
fraction_of last expected received =
    if expected - last.0 == 0 then 0 else min 255 (256 * lost_since last expected received / (expected - last.0))

-- a report of a source whose SSRC and last sender report are left 0
abbrev pub block_of : ℕ → ℤ → ℕ → ℕ → ReceptionReport
block_of fraction lost last jitter = record { ssrc = 0; fraction_lost = fraction; packets_lost = lost; max_seq = last % 2 ^ 32; jitter = jitter; last_sr_time = 0; last_sr_delay = 0 }

-- the report, where a packet came, of the first number and the greatest
abbrev pub report_with : Option ℕ → Option ℕ → Counts → Option ReceptionReport
report_with (Some first) (Some last) c =
    Some (block_of (fraction_of (c.expected_then, c.received_then) (expected_of first last) c.received) (lost_of (expected_of first last) c.received) last (rtp_jitter c.point c.jitter))
report_with (Some first) None c = None
report_with None o c = None

-- the report, where a packet came, of the greatest number that was taken
abbrev pub counts_report : (greatest : Option ℕ) → Counts → Option ReceptionReport
counts_report greatest c = report_with c.first greatest c

abbrev pub after_with : Option ℕ → Option ℕ → Counts → Counts
after_with (Some first) (Some last) c = told (expected_of first last) c.received c
after_with (Some first) None c = c
after_with None o c = c

-- the counts after that report
abbrev pub counts_after : (greatest : Option ℕ) → Counts → Counts
counts_after greatest c = after_with c.first greatest c
