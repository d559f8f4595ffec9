-- The arrivals that feedback tells.
use Rattle.std.specs.Prelude.{◌≡◌, ℕ, ℤ, pos, negsuc, zero, suc, ◌+◌, ◌-◌, ◌*◌, ◌/◌, ◌^◌, ◌<◌, ◌≤◌, min, List, [], ◌∷◌, length, slice_get, unwrap_or, Option, Some, None}
use Rattle.std.specs.Option.{option_map}
use Rattle.twcc_core.specs.declared.status.PacketStatus.{PacketStatus}
use Rattle.twcc_core.specs.declared.status.PacketStatus.TheVariants.{NotReceived, Received}
use Rattle.twcc_core.specs.declared.feedback.Twcc.{Twcc}
use Rattle.twcc_core.specs.declared.moments.TheConstants.{DELTA_NANOS, REFERENCE_NANOS}
use Rattle.twcc_core.specs.declared.receive.TheConstants.{MIN_REPORT_LEN}
use Rattle.twcc_core.specs.Feedback.{twcc_of, twcc_bytes}
use Rattle.rtp_base.specs.Fields.{bits24}
use Rattle.twcc_core.specs.Reports.{Receiving, unreported, arrival_of, reference_of, report_of}

-- so many steps of 250 us after a moment, or before it
abbrev pub moment_after : ℕ → ℤ → ℕ
moment_after moment (pos steps) = min (moment + steps * DELTA_NANOS) (2 ^ 64 - 1)
moment_after moment (negsuc steps) = moment - (steps + 1) * DELTA_NANOS

-- when a packet came, if it did
abbrev pub row_moment : ℕ → PacketStatus → Option ℕ
row_moment last NotReceived = None
row_moment last (Received delta) = Some (moment_after last delta)

-- when each packet came
abbrev pub moments_from : ℕ → List PacketStatus → List (Option ℕ)
moments_from last [] = []
moments_from last (row ∷ rows) = row_moment last row ∷ moments_from (unwrap_or (row_moment last row) last) rows

-- from the reference time on, as a number of 24 bits without sign
abbrev pub moments_of : Twcc → List (Option ℕ)
moments_of t = moments_from (bits24 t.reference_time * REFERENCE_NANOS) t.rows

-- a moment as the wire holds it, in steps of 250 us
abbrev pub held : ℕ → ℕ
held moment = moment / DELTA_NANOS * DELTA_NANOS

-- when each of n numbers in a row came, as the wire holds it
abbrev pub held_from : List (ℕ × ℕ) → ℕ → ℕ → List (Option ℕ)
held_from arrivals number zero = []
held_from arrivals number (suc n) = option_map held (arrival_of arrivals number) ∷ held_from arrivals (number + 1) n

-- moments are below 2^64 ns
abbrev pub AreMoments : List (ℕ × ℕ) → Type 0
AreMoments arrivals = (number moment : ℕ) → arrival_of arrivals number ≡ Some moment → moment < 2 ^ 64

-- a report that was built, written and read again tells which numbers came, from the lowest unreported on,
-- and when, where the first of them came before the reference time comes round, after about 12 days
abbrev pub ReportsTellArrivals : Type 0
ReportsTellArrivals =
    (r : Receiving) (sender ssrc limit : ℕ) (t : Twcc) (first : ℕ × ℕ) → sender < 2 ^ 32 → ssrc < 2 ^ 32 → r.reports < 256 → AreMoments r.arrivals
    → slice_get (unreported r) 0 ≡ Some first → reference_of first.1 < 2 ^ 24 → report_of r sender ssrc limit ≡ Some t
    → (twcc_of (twcc_bytes t) ≡ Some t) × (moments_of t ≡ held_from r.arrivals first.0 (length t.rows))

-- there is no report exactly where nothing is unreported or fewer than 24 bytes are left
abbrev pub ReportsAreNone : Type 0
ReportsAreNone =
    (r : Receiving) (sender ssrc limit : ℕ)
    → (slice_get (unreported r) 0 ≡ None → report_of r sender ssrc limit ≡ None)
    × (limit < MIN_REPORT_LEN → report_of r sender ssrc limit ≡ None)
    × ((first : ℕ × ℕ) → slice_get (unreported r) 0 ≡ Some first → MIN_REPORT_LEN ≤ limit → (t : Twcc) × (report_of r sender ssrc limit ≡ Some t))
