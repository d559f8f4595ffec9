-- The moment that the 24 bits of an absolute send time tell.
use Rattle.std.specs.Prelude.{ℕ, ◌+◌, ◌-◌, ◌*◌, ◌/◌, ◌%◌}
use Rattle.media_units.specs.Wallclock.{ntp_nanos}
use Rattle.rtp_wire.specs.declared.abs_time.TheConstants.{SEND_TIME_LIMIT, SEND_TIME_UNITS}

-- nanoseconds in units of 2 ^ -18 s, rounded down
abbrev pub send_units : ℕ → ℕ
send_units nanos = nanos * SEND_TIME_UNITS / 1000000000

-- the greatest number that is at most the last one and has these low 24 bits
abbrev pub last_with : ℕ → ℕ → ℕ
last_with low last = last - (last + SEND_TIME_LIMIT - low) % SEND_TIME_LIMIT

-- the moment of a run, nearest at or before another, that has these 24 bits, rounded down to nanoseconds: the beginning
-- where it is before that
abbrev pub sent_at : ℕ → ℕ → ℕ → ℕ
sent_at low unix_secs now = last_with low (send_units (ntp_nanos unix_secs now)) * 1000000000 / SEND_TIME_UNITS - ntp_nanos unix_secs 0
