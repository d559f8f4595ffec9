-- The round trip that an exchange of reports tells (RFC 3550 section 6.4.1, RFC 3611 section 4.5).
use Rattle.std.specs.Prelude.{◌≡◌, ℕ, ◌+◌, ◌*◌, ◌/◌, ◌^◌, ◌<◌, ◌≤◌, Some}
use Rattle.media_units.specs.Wallclock.{nanos_1900, unix_of_ntp, ntp_of_unix}
use Rattle.report_core.specs.LastReport.{compact_of, delay_units}
use Rattle.report_core.specs.Trip.{trip_told}
use Rattle.report_core.specs.declared.trip.TheConstants.{LEAST_HELD_NANOS, TRIP_ERROR_NANOS}

-- what the peer keeps of a moment, given in nanoseconds from the Unix epoch, that came to it as 64 bits of NTP
abbrev pub kept_of : ℕ → ℕ
kept_of unix = compact_of (unix_of_ntp (ntp_of_unix unix))

-- the spans of 65,536 s from 1900 on, after which the 16 bits of seconds begin anew
abbrev pub span_of : ℕ → ℕ
span_of unix = (unix + nanos_1900) / (65536 * 1000000000)

-- A moment went out, the peer held it for a time and answered, and both ways took a time: where the peer held it for
-- at least 16 us, the ways took at least 50 us, and the answer came in the same span and before 2036, the round trip is
-- told, and to 50 us.
abbrev pub TripsAreMeasured : Type 0
TripsAreMeasured =
    (unix held trip : ℕ)
    → unix + held + trip + nanos_1900 < 2 ^ 32 * 1000000000
    → span_of unix ≡ span_of (unix + held + trip)
    → LEAST_HELD_NANOS ≤ held → TRIP_ERROR_NANOS ≤ trip
    → (told : ℕ) × (trip_told (unix + held + trip + nanos_1900) (delay_units held) (kept_of unix) ≡ Some told)
    × (told ≤ trip + TRIP_ERROR_NANOS) × (trip ≤ told + TRIP_ERROR_NANOS)
