-- Bounds of what an exchange of reports tells. A span is 65,536 s.
use Rattle.std.proofs.Common.{◌≡◌, ℕ, ◌+◌, ◌-◌, ◌*◌, ◌/◌, ◌%◌, ◌<◌, ◌≤◌, ◌&&◌, nat_lt, nat_le, if◌then◌else◌, Some, None, arith, ap, ◌∙◌}
use Rattle.media_units.specs.Trip.{middle_bits, trip_nanos}
use Rattle.media_units.specs.Wallclock.{unix_of_ntp, ntp_of_unix}
use Rattle.report_core.specs.LastReport.{delay_units}
use Rattle.report_core.specs.Exchange.{kept_of, TripsAreMeasured}

-- the middle bits are at most the units since the span began
pub middle_most : (n : ℕ) → middle_bits n * 1000000000 ≤ n % 65536000000000 * 65536
middle_most n = omega arith

-- and at least two units less
pub middle_least : (n : ℕ) → n % 65536000000000 * 65536 ≤ middle_bits n * 1000000000 + 2000000000
middle_least n = omega arith

-- units as nanoseconds
pub nanos_least : (u : ℕ) → u * 1000000000 ≤ trip_nanos u * 65536 + 65536
nanos_least u = omega arith

pub nanos_most : (u : ℕ) → trip_nanos u * 65536 ≤ u * 1000000000 + 1000000000
nanos_most u = omega arith

-- a delay in units, of at most a span
pub delay_most : (held : ℕ) → delay_units held * 1000000000 ≤ held * 65536
delay_most held = omega arith

pub delay_least : (held : ℕ) → held < 65536000000000 → held * 65536 ≤ delay_units held * 1000000000 + 1065536000
delay_least held h = omega arith

pub delay_positive : (held : ℕ) → held < 65536000000000 → 16000 ≤ held → 0 < delay_units held
delay_positive held h low = omega arith

-- a moment before 2036 as NTP
pub ntp_plain : (unix : ℕ) → unix + 2208988800000000000 < 4294967296000000000
    → ntp_of_unix unix ≡ (unix + 2208988800000000000) * 4294967296 / 1000000000
ntp_plain unix h = omega arith

-- read again it is the same or a nanosecond earlier, in the same span
pub again_most : (n : ℕ) → n * 4294967296 / 1000000000 * 1000000000 / 4294967296 ≤ n
again_most n = omega arith

pub again_least : (n : ℕ) → n ≤ n * 4294967296 / 1000000000 * 1000000000 / 4294967296 + 1
again_least n = omega arith

pub again_span : (n : ℕ) → n * 4294967296 / 1000000000 * 1000000000 / 4294967296 / 65536000000000 ≡ n / 65536000000000
again_span n = omega arith

pub again_1900 : (n : ℕ) → 2208988800000000000 ≤ n → 2208988800000000000 ≤ n * 4294967296 / 1000000000 * 1000000000 / 4294967296
again_1900 n h = omega arith

-- the middle of its 64 bits
pub middle_of_most : (m : ℕ) → m * 4294967296 / 1000000000 / 65536 % 4294967296 * 1000000000 ≤ m % 65536000000000 * 65536
middle_of_most m = omega arith

pub middle_of_least : (m : ℕ) → m % 65536000000000 * 65536 ≤ m * 4294967296 / 1000000000 / 65536 % 4294967296 * 1000000000 + 1000000000
middle_of_least m = omega arith

-- the trip is told where there was a delay and the moment and the delay passed
pub told_where : (m d l x : ℕ) → 0 < d → d + l ≤ m → (if nat_lt 0 d && nat_le (d + l) m then Some x else None) ≡ Some x
told_where m d l x positive passed = grind (arith, positive, passed)

-- what is kept of a moment before 2036
pub kept_plain : (unix : ℕ) → unix + 2208988800000000000 < 4294967296000000000
    → kept_of unix ≡ (unix + 2208988800000000000) * 4294967296 / 1000000000 * 1000000000 / 4294967296 * 4294967296 / 1000000000 / 65536 % 4294967296
kept_plain unix h =
    let n : ℕ = unix + 2208988800000000000 in
    let m : ℕ = n * 4294967296 / 1000000000 * 1000000000 / 4294967296 in
    let written : ntp_of_unix unix ≡ n * 4294967296 / 1000000000 = ntp_plain unix h in
    let read : unix_of_ntp (ntp_of_unix unix) ≡ m - 2208988800000000000 = ap unix_of_ntp written in
    let late : 2208988800000000000 ≤ m = again_1900 n (omega arith) in
    let most : m ≤ n = again_most n in
    let again : unix_of_ntp (ntp_of_unix unix) + 2208988800000000000 ≡ m = omega (arith, read, late) in
    let below : unix_of_ntp (ntp_of_unix unix) + 2208988800000000000 < 4294967296000000000 = omega (arith, again, most, h) in
    ap (λ b. b / 65536 % 4294967296) (ntp_plain (unix_of_ntp (ntp_of_unix unix)) below) ∙ ap (λ k. k * 4294967296 / 1000000000 / 65536 % 4294967296) again

-- the bounds of what is kept
pub kept_most : (unix : ℕ) → unix + 2208988800000000000 < 4294967296000000000
    → kept_of unix * 1000000000 ≤ (unix + 2208988800000000000) % 65536000000000 * 65536
kept_most unix h =
    let n : ℕ = unix + 2208988800000000000 in
    let m : ℕ = n * 4294967296 / 1000000000 * 1000000000 / 4294967296 in
    let plain = kept_plain unix h in
    let most : m ≤ n = again_most n in
    let span : m / 65536000000000 ≡ n / 65536000000000 = again_span n in
    let within : m % 65536000000000 ≤ n % 65536000000000 = omega (arith, most, span) in
    omega (arith, plain, within, middle_of_most m)

pub kept_least : (unix : ℕ) → unix + 2208988800000000000 < 4294967296000000000
    → (unix + 2208988800000000000) % 65536000000000 * 65536 ≤ kept_of unix * 1000000000 + 1000065536
kept_least unix h =
    let n : ℕ = unix + 2208988800000000000 in
    let m : ℕ = n * 4294967296 / 1000000000 * 1000000000 / 4294967296 in
    let plain = kept_plain unix h in
    let least : n ≤ m + 1 = again_least n in
    let span : m / 65536000000000 ≡ n / 65536000000000 = again_span n in
    let within : n % 65536000000000 ≤ m % 65536000000000 + 1 = omega (arith, least, span) in
    omega (arith, plain, within, middle_of_least m)

-- the bounds together: the middle bits m, the delay d and what is kept l, of moments at places a and b of one span
pub all_passed : (a b held trip m d l : ℕ) → b ≡ a + held + trip → 50000 ≤ trip
    → b * 65536 ≤ m * 1000000000 + 2000000000 → d * 1000000000 ≤ held * 65536 → l * 1000000000 ≤ a * 65536 → d + l ≤ m
all_passed a b held trip m d l same long least delay kept = omega (arith, same, long, least, delay, kept)

pub not_long : (a b held trip m d l t : ℕ) → b ≡ a + held + trip → d + l ≤ m
    → m * 1000000000 ≤ b * 65536 → held * 65536 ≤ d * 1000000000 + 1065536000 → a * 65536 ≤ l * 1000000000 + 1000065536
    → t * 65536 ≤ (m - d - l) * 1000000000 + 1000000000 → t ≤ trip + 50000
not_long a b held trip m d l t same fits most delay kept told = omega (arith, same, fits, most, delay, kept, told)

pub not_short : (a b held trip m d l t : ℕ) → b ≡ a + held + trip → d + l ≤ m
    → b * 65536 ≤ m * 1000000000 + 2000000000 → d * 1000000000 ≤ held * 65536 → l * 1000000000 ≤ a * 65536
    → (m - d - l) * 1000000000 ≤ t * 65536 + 65536 → trip ≤ t + 50000
not_short a b held trip m d l t same fits least delay kept told = omega (arith, same, fits, least, delay, kept, told)

-- places in one span
pub one_span : (a b held trip : ℕ) → b ≡ a + held + trip → a / 65536000000000 ≡ b / 65536000000000
    → b % 65536000000000 ≡ a % 65536000000000 + held + trip
one_span a b held trip same span = omega (arith, same, span)

pub trips_are_measured : TripsAreMeasured
trips_are_measured unix held trip early span long_held long =
    let a : ℕ = unix + 2208988800000000000 in
    let b : ℕ = unix + held + trip + 2208988800000000000 in
    let sum : b ≡ a + held + trip = omega arith in
    let places : b % 65536000000000 ≡ a % 65536000000000 + held + trip = one_span a b held trip sum span in
    let short_held : held < 65536000000000 = omega (arith, places) in
    let before : a < 4294967296000000000 = omega (arith, early) in
    let m : ℕ = middle_bits b in
    let d : ℕ = delay_units held in
    let l : ℕ = kept_of unix in
    let passed : d + l ≤ m = all_passed (a % 65536000000000) (b % 65536000000000) held trip m d l places long (middle_least b) (delay_most held) (kept_most unix before) in (
      trip_nanos (m - d - l),
      told_where m d l (trip_nanos (m - d - l)) (delay_positive held short_held long_held) passed,
      not_long (a % 65536000000000) (b % 65536000000000) held trip m d l (trip_nanos (m - d - l)) places passed (middle_most b) (delay_least held short_held) (kept_least unix before) (nanos_most (m - d - l)),
      not_short (a % 65536000000000) (b % 65536000000000) held trip m d l (trip_nanos (m - d - l)) places passed (middle_least b) (delay_most held) (kept_most unix before) (nanos_least (m - d - l)),
    )
