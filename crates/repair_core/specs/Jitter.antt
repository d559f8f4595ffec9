-- The interarrival jitter (RFC 3550, sections 6.4.1 and A.8), in 65,536ths of a nanosecond.
use Rattle.std.specs.Prelude.{ℕ, ◌+◌, ◌-◌, ◌*◌, ◌/◌, ◌%◌, ◌^◌, ◌==◌, nat_lt, min, if◌then◌else◌, Option, Some, None}
use Rattle.repair_core.specs.declared.jitter.TimePoint.{TimePoint}

-- how far apart two numbers are
abbrev pub distance : ℕ → ℕ → ℕ
distance a b = (a - b) + (b - a)

-- so many units of an RTP clock, cut to nanoseconds
abbrev pub nanos_of : ℕ → ℕ → ℕ
nanos_of units rate = units * 1000000000 / rate

-- the difference of two RTP times, modulo 2^32
abbrev pub rtp_steps : ℕ → ℕ → ℕ
rtp_steps before after = (after + (2 ^ 32 - before)) % 2 ^ 32

-- how far the difference of two arrivals is from the difference of their RTP times, which is a signed number of 32 bits, at
-- the rate of the second
abbrev pub deviation : TimePoint → TimePoint → ℕ
deviation last point =
    if nat_lt (rtp_steps last.rtp_time point.rtp_time) (2 ^ 31)
    then distance point.arrival (last.arrival + nanos_of (rtp_steps last.rtp_time point.rtp_time) point.clock_rate)
    else distance (point.arrival + nanos_of (2 ^ 32 - rtp_steps last.rtp_time point.rtp_time) point.clock_rate) last.arrival

abbrev pub next_jitter : ℕ → ℕ → ℕ
next_jitter value deviation = (15 * value + 65536 * deviation) / 16

-- the last packet that entered, after another came: one that has the same RTP time does not enter
abbrev pub entered : Option TimePoint → TimePoint → Option TimePoint
entered None point = Some point
entered (Some last) point = if last.rtp_time == point.rtp_time then Some last else Some point

abbrev pub jitter_after : ℕ → Option TimePoint → TimePoint → ℕ
jitter_after value None point = value
jitter_after value (Some last) point = if last.rtp_time == point.rtp_time then value else next_jitter value (deviation last point)

-- in units of an RTP clock, rounded half up, at most 2^32 - 1
abbrev pub units_of : ℕ → ℕ → ℕ
units_of value rate = min ((value * rate + 32768000000000) / 65536000000000) (2 ^ 32 - 1)

abbrev pub rtp_jitter : Option TimePoint → ℕ → ℕ
rtp_jitter None value = 0
rtp_jitter (Some last) value = units_of value last.clock_rate
