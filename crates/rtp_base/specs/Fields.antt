-- Fields of bytes.
use Rattle.std.specs.Prelude.{ℕ, ℤ, pos, negsuc, ◌%◌, ◌<◌, ◌-ℤ◌, nat_lt, if◌then◌else◌}
use Rattle.std.specs.Int.{w32, cast_unsigned}

-- 24 bits as a signed number, and the 24 bits of one (RFC 3550 section 6.4.1)
abbrev pub signed24 : ℕ → ℤ
signed24 n = if nat_lt n 8388608 then pos n else (pos n -ℤ pos 16777216)

abbrev pub bits24 : ℤ → ℕ
bits24 z = cast_unsigned w32 z % 16777216

-- 24 bits hold the number
abbrev pub IsSigned24 : ℤ → Type 0
IsSigned24 (pos n) = n < 8388608
IsSigned24 (negsuc n) = n < 8388608
