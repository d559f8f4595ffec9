-- The round trip that an answer to a report tells (RFC 3550 section 6.4.1, RFC 3611 section 4.5).
use Rattle.std.specs.Prelude.{ℕ, ◌+◌, ◌-◌, ◌&&◌, nat_lt, nat_le, if◌then◌else◌, Option, Some, None}
use Rattle.media_units.specs.Trip.{middle_bits, trip_nanos}

-- what passed since the report at this moment, from 1900, without the time that the peer held it: None where the peer
-- had no report, or tells more than passed
abbrev pub trip_told : (ntp delay last_report : ℕ) → Option ℕ
trip_told ntp delay last_report =
    if nat_lt 0 delay && nat_le (delay + last_report) (middle_bits ntp)
    then Some (trip_nanos (middle_bits ntp - delay - last_report))
    else None
