-- Sender and receiver reports (RFC 3550 section 6.4).
use Rattle.std.specs.Prelude.{ℕ, ◌+◌, ◌*◌, List, [], ◌∷◌, ◌++◌, length, drop, nat_lt, Option, Some, None, if◌then◌else◌}
use Rattle.std.specs.List.{flat_map}
use Rattle.std.specs.Int.{w32, w64, to_be_bytes}
use Rattle.media_units.specs.Wallclock.{unix_of_ntp, ntp_of_unix}
use Rattle.rtp_base.specs.Wire.{word_at, double_at, words}
use Rattle.rtcp_wire.specs.Wire.{rows_of}
use Rattle.rtcp_wire.specs.Rows.{report_at, report_text}
use Rattle.rtcp_items.specs.declared.report.ReceiverReport.{ReceiverReport}
use Rattle.rtcp_items.specs.declared.report.SenderReport.{SenderReport}
use Rattle.rtcp_items.specs.declared.report.SenderInfo.{SenderInfo}
use Rattle.rtcp_items.specs.declared.source.Goodbye.{Goodbye}
use Rattle.rtcp_wire.specs.declared.report.TheConstants.{RECEPTION_REPORT_LEN, SENDER_INFO_LEN}

-- type 201: the SSRC of the sender, and as many reception blocks as the count says
unfoldable pub receiver_report_of : ℕ → List ℕ → Option ReceiverReport
receiver_report_of count body =
    if nat_lt (length body) (4 + count * RECEPTION_REPORT_LEN) then None
    else Some (record { sender_ssrc = word_at body 0; reports = rows_of report_at RECEPTION_REPORT_LEN count (drop 4 body) })

unfoldable pub receiver_report_body : ReceiverReport → List ℕ
receiver_report_body r = to_be_bytes w32 r.sender_ssrc ++ flat_map report_text r.reports

-- the SSRC of the sender, the NTP time, the RTP time, and the packets and bytes sent
-- (RFC 3550 section 6.4.1)
unfoldable pub sender_info_at : List ℕ → SenderInfo
sender_info_at body = record {
  ssrc = word_at body 0;
  ntp_time = unix_of_ntp (double_at body 4);
  rtp_time = word_at body 12;
  sender_packet_count = word_at body 16;
  sender_octet_count = word_at body 20;
}

unfoldable pub sender_info_text : SenderInfo → List ℕ
sender_info_text s =
    to_be_bytes w32 s.ssrc ++ to_be_bytes w64 (ntp_of_unix s.ntp_time) ++ words (s.rtp_time ∷ s.sender_packet_count ∷ s.sender_octet_count ∷ [])

-- type 200: the sender, and as many reception blocks as the count says
unfoldable pub sender_report_of : ℕ → List ℕ → Option SenderReport
sender_report_of count body =
    if nat_lt (length body) (SENDER_INFO_LEN + count * RECEPTION_REPORT_LEN) then None
    else Some (record { sender_info = sender_info_at body; reports = rows_of report_at RECEPTION_REPORT_LEN count (drop SENDER_INFO_LEN body) })

unfoldable pub sender_report_body : SenderReport → List ℕ
sender_report_body r = sender_info_text r.sender_info ++ flat_map report_text r.reports

-- type 203: as many SSRCs as the count says; a reason is passed over (RFC 3550 section 6.6)
unfoldable pub goodbye_of : ℕ → List ℕ → Option Goodbye
goodbye_of count body =
    if nat_lt (length body) (count * 4) then None
    else Some (record { reports = rows_of (λ bytes. word_at bytes 0) 4 count body })

unfoldable pub goodbye_body : Goodbye → List ℕ
goodbye_body g = words g.reports
