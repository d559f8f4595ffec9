-- What a receiver reports (RFC 3550 section 6.4.2, RFC 3611 section 4.4).
use Rattle.std.specs.Prelude.{ℕ, [], ◌∷◌, Option}
use Rattle.std.specs.Option.{option_to_list}
use Rattle.media_units.specs.Wallclock.{unix_nanos}
use Rattle.media_units.specs.declared.wallclock.Beginning.{Beginning}
use Rattle.rtp_base.specs.declared.reception_report.ReceptionReport.{ReceptionReport}
use Rattle.rtcp_items.specs.declared.report.ReceiverReport.{ReceiverReport}
use Rattle.rtcp_items.specs.declared.extended.ReportBlock.TheVariants.{Rrtr}
use Rattle.rtcp_items.specs.declared.extended.ExtendedReport.{ExtendedReport}

-- the report of one source, or of none
abbrev pub receiver_report_of : (sender_ssrc : ℕ) → Option ReceptionReport → ReceiverReport
receiver_report_of sender_ssrc block = record { sender_ssrc = sender_ssrc; reports = option_to_list block }

-- the moment of the receiver
abbrev pub moment_report_of : (sender_ssrc now : ℕ) → Beginning → ExtendedReport
moment_report_of sender_ssrc now beginning =
    record { ssrc = sender_ssrc; blocks = Rrtr (record { ntp_time = unix_nanos beginning.unix_secs now }) ∷ [] }
