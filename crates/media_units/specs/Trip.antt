-- The round trip that a report block tells (RFC 3550, section 6.4.1), in whole numbers.
use Rattle.std.specs.Prelude.{ℕ, ◌+◌, ◌-◌, ◌*◌, ◌/◌, ◌%◌, ◌^◌}

-- the middle 32 bits of a moment, given in nanoseconds from 1900: 16 of seconds, and 16 of their fraction
abbrev pub middle_bits : ℕ → ℕ
middle_bits ntp =
    ntp / 1000000000 % 65536 * 65536 + ntp % 1000000000 * (2 ^ 32 - 1) / 1000000000 / 65536

-- the nanoseconds of a trip of so many 65,536ths of a second
abbrev pub trip_nanos : ℕ → ℕ
trip_nanos units = units / 65536 * 1000000000 + units % 65536 * 1000000000 / 65535
