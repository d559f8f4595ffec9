-- The value of an extension, as its bytes hold it.
use Rattle.std.specs.Prelude.{ℕ, ◌/◌, ◌%◌, ◌==◌, ℤ, pos, ◌-ℤ◌, Bool, ◌||◌, Option, Some, None, List, length, slice_index, if◌then◌else◌}
use Rattle.rtp_base.specs.Wire.{half_at, triple_at, double_at}
use Rattle.rtp_base.specs.declared.media_time.MediaTime.{MediaTime}
use Rattle.rtp_wire.specs.declared.values.VideoOrientation.{VideoOrientation as Turn}
use Rattle.rtp_wire.specs.declared.values.VideoOrientation.TheVariants.{Deg0, Deg90, Deg180, Deg270}

-- A value has one length, or two; bytes of another length are passed over.
abbrev pub has_length : ℕ → List ℕ → Bool
has_length n bytes = length bytes == n

-- the transport number: 16 bits
abbrev pub transport_in : List ℕ → Option ℕ
transport_in bytes = if has_length 2 bytes then Some (half_at bytes 0) else None

-- the time of sending: 24 bits
abbrev pub send_time_in : List ℕ → Option ℕ
send_time_in bytes = if has_length 3 bytes then Some (triple_at bytes 0) else None

-- voice activity is the high bit, and the other seven are minus the level (RFC 6464 section 3)
abbrev pub level_of : ℕ → ℤ
level_of n = pos 0 -ℤ pos n

abbrev pub level_in : List ℕ → Option ℤ
level_in bytes = if has_length 1 bytes then Some (level_of (slice_index bytes 0 % 128)) else None

abbrev pub voice_in : List ℕ → Option Bool
voice_in bytes = if has_length 1 bytes then Some (slice_index bytes 0 / 128 % 2 == 1) else None

-- the low two bits count quarter turns, counter-clockwise (3GPP TS 26.114 section 7.4.5)
abbrev pub turned_by : ℕ → Turn
turned_by turns = if turns == 0 then Deg0 else if turns == 1 then Deg270 else if turns == 2 then Deg180 else Deg90

abbrev pub turn_in : List ℕ → Option Turn
turn_in bytes = if has_length 1 bytes then Some (turned_by (slice_index bytes 0 % 4)) else None

-- the time of capture: 64 bits of NTP, behind which an offset of 64 bits may stand
abbrev pub capture_in : List ℕ → Option ℕ
capture_in bytes = if has_length 8 bytes || has_length 16 bytes then Some (double_at bytes 0) else None

-- the least and the greatest delay: 12 bits each, in 10 ms
abbrev pub hundredths : ℕ → MediaTime
hundredths n = record { numer = n; frequency = 100 }

abbrev pub least_delay_in : List ℕ → Option MediaTime
least_delay_in bytes = if has_length 3 bytes then Some (hundredths (triple_at bytes 0 / 4096)) else None

abbrev pub greatest_delay_in : List ℕ → Option MediaTime
greatest_delay_in bytes = if has_length 3 bytes then Some (hundredths (triple_at bytes 0 % 4096)) else None
