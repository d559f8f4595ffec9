-- The rates of a pacer, from an estimate of the bandwidth.
use Rattle.std.specs.Prelude.{ℕ, ◌*◌, ◌/◌, ◌&&◌, not, min, max, Bool, if◌then◌else◌}
use Rattle.media_units.specs.declared.rate.TheConstants.{GREATEST_RATE}
use Rattle.pace_units.specs.declared.control.TheConstants.{PADDING_TARGET, PACING_TENTHS}

-- media is active, the estimate, whether the link is overused, and the least rate that was asked for
abbrev pub padding_rate : Bool → ℕ → Bool → ℕ → ℕ
padding_rate active estimate overuse minimum =
    if active && not overuse then min (max PADDING_TARGET minimum) estimate else 0

-- eleven tenths of the estimate, but at least the padding; at most the greatest rate
abbrev pub pacing_rate : ℕ → ℕ → ℕ
pacing_rate estimate padding = max (min (estimate * PACING_TENTHS / 10) GREATEST_RATE) padding
