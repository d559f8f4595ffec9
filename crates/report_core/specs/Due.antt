-- When the reports of a stream are due.
use Rattle.std.specs.Prelude.{ℕ, ◌+◌, ◌-◌, ◌*◌, ◌^◌, ◌&&◌, Bool, not, min, nat_le, is_some, if◌then◌else◌, Option, Some, None}
use Rattle.media_units.specs.declared.time.TheConstants.{NOT_HAPPENING_SECONDS}
use Rattle.report_core.specs.declared.clock.ReportIntervals.{ReportIntervals}

-- the interval of a stream of sound, or of one of pictures
abbrev pub interval_of : ReportIntervals → Bool → ℕ
interval_of intervals is_audio = if is_audio then intervals.audio else intervals.video

-- an interval after a report, or the last moment of all
abbrev pub after_interval : ℕ → ℕ → ℕ
after_interval last interval = min (last + interval) (2 ^ 64 - 1)

-- when the receiver report of an incoming stream is due; without an RTX SSRC it counts as sound
abbrev pub receiver_due : ReportIntervals → (has_rtx : Bool) → (last : ℕ) → ℕ
receiver_due intervals has_rtx last = after_interval last (interval_of intervals (not has_rtx))

-- a hundred years of 365 days after the beginning
abbrev pub never : ℕ
never = NOT_HAPPENING_SECONDS * 1000000000

-- when the sender report of an outgoing stream is due, whose kind may have been told
abbrev pub sender_due : ReportIntervals → (last : ℕ) → (is_audio : Option Bool) → ℕ
sender_due intervals last None = never
sender_due intervals last (Some is_audio) = after_interval last (interval_of intervals is_audio)

abbrev pub is_sender_due : ReportIntervals → (last : ℕ) → (is_audio : Option Bool) → (now : ℕ) → Bool
is_sender_due intervals last is_audio now = is_some is_audio && nat_le (sender_due intervals last is_audio) now
