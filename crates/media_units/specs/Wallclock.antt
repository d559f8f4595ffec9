-- Moments against the calendar, in whole numbers. A number that a u64 cannot hold is the greatest u64.
use Rattle.std.specs.Prelude.{ℕ, ◌+◌, ◌-◌, ◌*◌, ◌/◌, ◌^◌, min}
use Rattle.media_units.specs.declared.wallclock.TheConstants.{SECONDS_1900}

-- nanoseconds from 1900 to the Unix epoch: 70 years, 17 of them with a leap day (RFC 868)
abbrev pub nanos_1900 : ℕ
nanos_1900 = SECONDS_1900 * 1000000000

-- nanoseconds from the Unix epoch to a moment of a run that began then
abbrev pub unix_nanos : ℕ → ℕ → ℕ
unix_nanos unix_secs nanos = min (unix_secs * 1000000000 + nanos) (2 ^ 64 - 1)

-- nanoseconds from 1900 to it
abbrev pub ntp_nanos : ℕ → ℕ → ℕ
ntp_nanos unix_secs nanos = min (unix_secs * 1000000000 + nanos + nanos_1900) (2 ^ 64 - 1)

-- nanoseconds from the Unix epoch to what 64 bits of NTP tell (RFC 3550, section 4), rounded down;
-- before 1970 is 1970
abbrev pub unix_of_ntp : ℕ → ℕ
unix_of_ntp bits = bits * 1000000000 / 2 ^ 32 - nanos_1900

-- the 64 bits of NTP for so many nanoseconds from the Unix epoch, rounded down
abbrev pub ntp_of_unix : ℕ → ℕ
ntp_of_unix nanos = min ((nanos + nanos_1900) * 2 ^ 32 / 1000000000) (2 ^ 64 - 1)
