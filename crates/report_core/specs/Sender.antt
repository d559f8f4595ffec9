-- What a sender says of itself (RFC 3550 sections 6.4.1 and 6.5.1).
use Rattle.std.specs.Prelude.{ℕ, ◌+◌, ◌-◌, ◌*◌, ◌/◌, ◌%◌, ◌^◌, nat_le, if◌then◌else◌, List, [], ◌∷◌, Option, Some, None}
use Rattle.media_units.specs.Wallclock.{unix_nanos}
use Rattle.media_units.specs.declared.wallclock.Beginning.{Beginning}
use Rattle.rtcp_items.specs.declared.report.SenderInfo.{SenderInfo}
use Rattle.rtcp_items.specs.declared.report.SenderReport.{SenderReport}
use Rattle.rtcp_items.specs.declared.source.SdesType.TheVariants.{CNAME}
use Rattle.rtcp_items.specs.declared.source.Descriptions.{Descriptions}
use Rattle.report_core.specs.declared.rtp_clock.Written.{Written}
use Rattle.report_core.specs.declared.rtp_clock.RtpClock.{RtpClock}
use Rattle.report_core.specs.declared.traffic.Traffic.{Traffic}

-- an RTP time, so many nanoseconds later, at so many units a second
abbrev pub moved_on : (rtp_time nanos rate : ℕ) → ℕ
moved_on rtp_time nanos rate = (rtp_time + nanos * rate / 1000000000) % 2 ^ 32

-- the RTP time at a moment: that of the last write, moved on at the rate of the last packet that was sealed for the
-- first time; 0 without either, and at a moment before the write's
abbrev pub rtp_time_at : Option Written → Option ℕ → (now : ℕ) → ℕ
rtp_time_at None rate now = 0
rtp_time_at (Some w) None now = 0
rtp_time_at (Some w) (Some rate) now =
    if nat_le w.wallclock now then moved_on w.rtp_time (now - w.wallclock) rate else 0

-- the moment, the RTP time then, and the packets and bytes sent so far, of which a report has the low 32 bits
abbrev pub info_of : (ssrc : ℕ) → RtpClock → Traffic → (now : ℕ) → Beginning → SenderInfo
info_of ssrc clock sent now beginning = record {
  ssrc = ssrc;
  ntp_time = unix_nanos beginning.unix_secs now;
  rtp_time = rtp_time_at clock.written clock.clock now;
  sender_packet_count = sent.packets % 2 ^ 32;
  sender_octet_count = sent.bytes % 2 ^ 32;
}

-- a report of this alone
abbrev pub report_of : SenderInfo → SenderReport
report_of info = record { sender_info = info; reports = [] }

-- a source by its name
abbrev pub name_of : (ssrc : ℕ) → (cname : List ℕ) → Descriptions
name_of ssrc cname =
    record { reports = (record { ssrc = ssrc; values = (record { kind = CNAME; text = cname }) ∷ [] }) ∷ [] }
