-- The RTP times of an incoming stream, widened to 64 bits by the last one.
use Rattle.std.specs.Prelude.{◌≡◌, ℕ, ◌+◌, ◌%◌, ◌^◌, ◌<◌, ◌≤◌, ◌&&◌, ◌⊎◌, Bool, true, nat_lt, if◌then◌else◌, Option, Some, None}
use Rattle.rtp_base.specs.Widen.{widen32}

-- the 32 bits of a time half of their range on
abbrev pub turned_half : ℕ → ℕ
turned_half t = (t + 2 ^ 31) % 2 ^ 32

-- the time of a packet, after the last one. After a pause a time that would lie before the last one is taken half of
-- the 32 bits on, where it then lies behind the last one
abbrev pub time_after : Option ℕ → (was_paused : Bool) → ℕ → ℕ
time_after None was_paused t = t
time_after (Some last) was_paused t =
    let time = widen32 (Some last) t in
    let later = widen32 (Some last) (turned_half t) in
    if was_paused && nat_lt time last && nat_lt last later then later else time

-- a time less than half of the 32 bits away from the last one widens to itself
abbrev pub TimesWidenNearest : Type 0
TimesWidenNearest =
    (p n : ℕ) → p < 2 ^ 64 → n < 2 ^ 64 → n < p + 2 ^ 31 → p < n + 2 ^ 31 → widen32 (Some p) (n % 2 ^ 32) ≡ n

-- the low 32 bits of a widened time are those that came, or after a pause those half of the range on
abbrev pub TimesKeepLowBits : Type 0
TimesKeepLowBits =
    (last : Option ℕ) (was_paused : Bool) (t : ℕ) → t < 2 ^ 32
    → (time_after last was_paused t % 2 ^ 32 ≡ t) ⊎ (time_after last was_paused t % 2 ^ 32 ≡ turned_half t)

-- after a pause a time lies at the last one or behind it, unless it is exactly half of the 32 bits before it; the 64
-- bits have to go on
abbrev pub PausesMoveOn : Type 0
PausesMoveOn =
    (last t : ℕ) → last + 2 ^ 32 < 2 ^ 64 → t < 2 ^ 32
    → (last ≤ time_after (Some last) true t) ⊎ (time_after (Some last) true t + 2 ^ 31 ≡ last)
