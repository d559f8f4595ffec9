-- What came from the sender of an incoming stream, and what a receiver tells of it (RFC 3550 section 6.4.1).
use Rattle.std.specs.Prelude.{ℕ, ◌-◌, ◌*◌, ◌/◌, ◌%◌, ◌^◌, Option, Some, None}
use Rattle.std.specs.Option.{option_map}
use Rattle.media_units.specs.Wallclock.{ntp_of_unix}
use Rattle.rtp_base.specs.Widen.{widen32}
use Rattle.rtp_base.specs.declared.reception_report.ReceptionReport.{ReceptionReport}
use Rattle.rtcp_items.specs.declared.report.SenderInfo.{SenderInfo}
use Rattle.report_core.specs.declared.sender_news.LastSenderReport.{LastSenderReport}
use Rattle.report_core.specs.declared.sender_news.SenderNews.{SenderNews}

-- the middle 32 bits of the 64 in which NTP tells a moment, given in nanoseconds from the Unix epoch
abbrev pub compact_of : ℕ → ℕ
compact_of unix = ntp_of_unix unix / 2 ^ 16 % 2 ^ 32

-- nanoseconds in 65,536ths of a second, of their whole microseconds
abbrev pub delay_units : ℕ → ℕ
delay_units nanos = nanos / 1000 * 65536 / 1000000 % 2 ^ 32

abbrev pub no_news : SenderNews
no_news = record { last = None }

-- a report came at a moment; its RTP time is widened by that of the one before
abbrev pub with_report : SenderInfo → (now : ℕ) → SenderNews → SenderNews
with_report info now n = record {
  last = Some (record { info = info; rtp_time = widen32 (option_map (λ l. l.rtp_time) n.last) info.rtp_time; received_at = now });
}

-- when the last sender report was sent, and how long ago it came; both 0 before one came
abbrev pub last_sr_time : Option LastSenderReport → ℕ
last_sr_time None = 0
last_sr_time (Some l) = compact_of l.info.ntp_time

abbrev pub last_sr_delay : Option LastSenderReport → (now : ℕ) → ℕ
last_sr_delay None now = 0
last_sr_delay (Some l) now = delay_units (now - l.received_at)

-- what was counted of a source, with the source and its last sender report
abbrev pub block_of : (ssrc : ℕ) → Option LastSenderReport → (now : ℕ) → ReceptionReport → ReceptionReport
block_of ssrc last now counted =
    record counted { ssrc = ssrc; last_sr_time = last_sr_time last; last_sr_delay = last_sr_delay last now }
