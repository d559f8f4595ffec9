-- Where a redundant block belongs. `taken` are the numbers that the window of the stream has taken.
use Rattle.std.specs.Prelude.{◌≡◌, ℕ, ◌+◌, ◌-◌, ◌/◌, ◌%◌, ◌<◌, ◌≤◌, ◌==◌, nat_le, ◌&&◌, Bool, if◌then◌else◌, filter, Option, Some, None, option_and_then, List, [], ◌∷◌}
use Rattle.std.specs.List.{range_with_len}
use Rattle.repair_core.specs.Fresh.{is_fresh}
use Rattle.red_core.specs.Known.{Known, is_at, below, above}
use Rattle.rtp_base.specs.declared.number.TheConstants.{MAX_RED_RECOVERY_DEPTH}

-- the numbers from one on and before another that may still be taken
abbrev pub fresh_in : List ℕ → ℕ → ℕ → List ℕ
fresh_in taken from end = filter (is_fresh taken) (range_with_len from (end - from))

-- the number at a time, where numbers and times rise evenly from one packet to the other: both divisions are exact
abbrev pub even_number : Known → Known → ℕ → Option ℕ
even_number l u t =
    let step = (u.time - l.time) / (u.number - l.number) in
    if (u.time - l.time) % (u.number - l.number) == 0 && (t - l.time) % step == 0 then Some (l.number + (t - l.time) / step) else None

-- a number, if it may still be taken
abbrev pub if_fresh : List ℕ → ℕ → Option ℕ
if_fresh taken n = if is_fresh taken n then Some n else None

-- one number alone is the place; of several it is the even one, if that is fresh
abbrev pub chosen : List ℕ → Known → Known → ℕ → List ℕ → Option ℕ
chosen taken l u t [] = None
chosen taken l u t (p ∷ []) = Some p
chosen taken l u t (p ∷ q ∷ ps) = option_and_then (if_fresh taken) (even_number l u t)

-- a number is at most so many below another, and not above it
abbrev pub is_within : ℕ → ℕ → ℕ → Bool
is_within depth n p = nat_le p n && nat_le (n - p) depth

abbrev pub if_within : ℕ → ℕ → Option ℕ
if_within n p = if is_within MAX_RED_RECOVERY_DEPTH n p then Some p else None

-- the place between two numbers, of which the lower one is at most 9 below the datagram: at most 8 below the datagram
abbrev pub place_between : List ℕ → ℕ → ℕ → Known → Known → Option ℕ
place_between taken n t l u =
    if is_within (MAX_RED_RECOVERY_DEPTH + 1) n l.number then option_and_then (if_within n) (chosen taken l u t (fresh_in taken (l.number + 1) u.number)) else None

-- The number of the block of time t that came in datagram n. There is none where a known number has that time, or where
-- there is no known number on either side of it.
abbrev pub place_of : List Known → List ℕ → ℕ → ℕ → Option ℕ
place_of known taken n t =
    if is_at known t then None
    else option_and_then (λ l. option_and_then (place_between taken n t l) (above known t)) (below known t)

-- what the first fresh number from one on and before another is
abbrev pub IsFirst : List ℕ → ℕ → ℕ → Option ℕ → Type 0
IsFirst taken from end None = fresh_in taken from end ≡ []
IsFirst taken from end (Some p) = (from ≤ p) × (p < end) × (fresh_in taken from end ≡ p ∷ fresh_in taken (p + 1) end)
