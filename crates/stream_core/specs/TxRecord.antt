-- The record of an outgoing stream, and what each call makes of it.
use Rattle.std.specs.Prelude.{◌≡◌, ℕ, ◌<◌, ◌≤◌, ◌%◌, Bool, false, Option, Some, None, unwrap_or, List, [], ◌∷◌, ◌++◌, length, map, ◌==◌, ◌&&◌, ◌||◌, is_some, is_none, if◌then◌else◌}
use Rattle.std.specs.List.{list_any}
use Rattle.std.specs.Option.{option_map}
use Rattle.report_core.specs.Loss.{loss_told, with_loss}
use Rattle.report_core.specs.TxStats.{TxStats, after_seen}
use Rattle.report_core.specs.declared.loss.ReportedLoss.{ReportedLoss}
use Rattle.rtcp_wire.specs.declared.rtcp_fb.RtcpFb.{RtcpFb}
use Rattle.rtcp_wire.specs.declared.rtcp_fb.RtcpFb.TheVariants.{ReceptionReport, Nack, Pli, Fir}
use Rattle.rtp_base.specs.declared.number.TheConstants.{NUMBER_LIMIT}
use Rattle.rtp_base.specs.declared.reception_report.ReceptionReport.{ReceptionReport as Block}
use Rattle.rtp_wire.specs.declared.header.RtpHeader.{RtpHeader}
use Rattle.rtp_wire.specs.Header.{header_bytes}
use Rattle.stream_core.specs.declared.packet.RtpPacket.{RtpPacket}
use Rattle.stream_core.specs.declared.stream_tx.PacketReceipt.{PacketReceipt}
use Rattle.stream_core.specs.declared.stream_tx.TheConstants.{MAX_PAYLOAD_LEN, MAX_PLAIN_LEN}
use Rattle.stream_core.specs.declared.reports.TxReports.{TxReports}
use Rattle.stream_core.specs.declared.transport.Transport.{Transport}
use Rattle.stream_core.specs.Arrivals.{no_tx_reports, tx_reports_anew, with_write, with_first_of, with_repair, with_nack, with_pli, with_fir, stats_of}
use Rattle.stream_core.specs.Queue.{needs_tick, with_stamp, next_of, rest_of}
use Rattle.stream_core.specs.Sealing.{sealed_values, with_values, after_packet}
use Rattle.stream_core.specs.Write.{WriteRecord, packet_of}

-- an outgoing stream: its SSRC and that of its repairs, the media section and the stream in it, whether the peer has
-- acknowledged its SSRC, the packets that wait, in order, what it keeps for its reports, and what its receivers reported as lost
-- since that was last looked at, where that is kept
pub record TxRecord : Type 0 where
  pub ssrc : ℕ
  pub rtx : Option ℕ
  pub mid : List ℕ
  pub rid : Option (List ℕ)
  pub acknowledged : Bool
  pub queue : List RtpPacket
  pub reports : TxReports
  pub losses : Option (List ReportedLoss)

-- a stream on which nothing was written
abbrev pub declared : ℕ → Option ℕ → List ℕ → Option (List ℕ) → TxRecord
declared ssrc rtx mid rid =
    record { ssrc = ssrc; rtx = rtx; mid = mid; rid = rid; acknowledged = false; queue = []; reports = no_tx_reports; losses = None }

-- a write puts its packet behind those that wait
abbrev pub written : WriteRecord → TxRecord → TxRecord
written w r = record r { queue = r.queue ++ packet_of r.ssrc w ∷ []; reports = with_write w.time w.wallclock r.reports }

-- a tick stamps each packet that has no stamp
abbrev pub after_timeout : ℕ → TxRecord → TxRecord
after_timeout now r = record r { queue = map (with_stamp now) r.queue }

-- a reception block tells that the peer knows the SSRC that it reports on: a stream without repairs is then acknowledged
abbrev pub acknowledges : ℕ → TxRecord → Bool
acknowledges ssrc r = is_none r.rtx && ssrc == r.ssrc

abbrev pub after_reception : Block → TxRecord → TxRecord
after_reception b r = record r { acknowledged = r.acknowledged || acknowledges b.ssrc r }

-- what is counted of it
abbrev pub tx_stats_of : TxRecord → TxStats
tx_stats_of r = record { counted = stats_of r.reports; resent = r.reports.resent; losses = r.losses }

-- from now on it keeps what its receivers report as lost, if it did not yet
abbrev pub with_stats : TxRecord → TxRecord
with_stats r = record r { losses = Some (unwrap_or r.losses []) }

-- a reception block tells what was lost of its packets, where that is kept: its number is widened by the last one sealed
abbrev pub lost_by : Block → TxRecord → TxRecord
lost_by b r = record r { losses = if b.ssrc == r.ssrc then option_map (with_loss (loss_told r.reports.last_sent b)) r.losses else r.losses }

-- an item of feedback that concerns the stream: a reception block, and what asks for packets or for a key frame, which counts
abbrev pub told_by : RtcpFb → TxRecord → TxRecord
told_by (ReceptionReport b) r = after_reception b (lost_by b r)
told_by (Nack ssrc entries) r = record r { reports = with_nack r.reports }
told_by (Pli p) r = record r { reports = with_pli r.reports }
told_by (Fir e) r = record r { reports = with_fir r.reports }
told_by _ r = r

-- what was lost was looked at
abbrev pub after_visit : TxRecord → TxRecord
after_visit r = record r { losses = (after_seen (tx_stats_of r)).losses }

-- the stream begins anew under another SSRC, and another one of its repairs, if it has them from then on: nothing waits, its
-- reports begin anew, the peer has not acknowledged the SSRC, and what its receivers report as lost is kept anew or not at all
abbrev pub anew_under : ℕ → Option ℕ → (keeps_losses : Bool) → TxRecord → TxRecord
anew_under ssrc rtx keeps_losses r = record r {
  ssrc = ssrc;
  rtx = rtx;
  acknowledged = false;
  queue = [];
  reports = tx_reports_anew r.reports;
  losses = if keeps_losses then Some [] else None;
}

-- the causes for which a packet is not written, the first of them
abbrev pub IsTooBig : WriteRecord → Type 0
IsTooBig w = NUMBER_LIMIT ≤ w.seq_no

abbrev pub IsTooLong : WriteRecord → Type 0
IsTooLong w = (w.seq_no < NUMBER_LIMIT) × (MAX_PAYLOAD_LEN < length w.payload)

abbrev pub Fits : WriteRecord → Type 0
Fits w = (w.seq_no < NUMBER_LIMIT) × (length w.payload ≤ MAX_PAYLOAD_LEN)

-- the header of a packet of the stream that is sealed at a moment
abbrev pub sealed_header : TxRecord → Transport → ℕ → RtpPacket → RtpHeader
sealed_header r t now p = with_values t p.header (sealed_values t now r.acknowledged r.mid r.rid p.header.ext_vals)

-- what there is to seal for a packet: its header, its number, and the header's bytes with the payload behind them
abbrev pub receipt_of : TxRecord → Transport → ℕ → RtpPacket → PacketReceipt
receipt_of r t now p = record {
  header = sealed_header r t now p;
  seq_no = p.seq_no;
  plain = header_bytes t.exts (sealed_header r t now p) ++ p.payload;
}

-- what a stream gives to be sealed at a moment: the packet at the front, if there was a tick since its write
abbrev pub polled : TxRecord → Transport → ℕ → Option PacketReceipt
polled r t now = option_map (receipt_of r t now) (next_of r.queue)

-- the stream and the transport after that
abbrev pub after_poll : TxRecord → TxRecord
after_poll r = record r { queue = rest_of r.queue; reports = with_first_of (next_of r.queue) r.reports }

abbrev pub transport_after_poll : TxRecord → Transport → Transport
transport_after_poll r t = if is_some (next_of r.queue) then after_packet t else t

-- the stream after a packet was sent again
abbrev pub after_resend : PacketReceipt → TxRecord → TxRecord
after_resend p r = record r { reports = with_repair p r.reports }

-- a packet that may be sealed: its number has 48 bits, of which its header has the low 16, and its plain, which begins with
-- the header, has no more bytes than the two in front of a payload of a repair and the longest payload allow
pub record IsSealable (p : PacketReceipt) : Type 0 where
  pub number : p.seq_no < NUMBER_LIMIT
  pub low : p.seq_no % 65536 ≡ p.header.sequence_number
  pub header : p.header.header_len ≤ length p.plain
  pub small : length p.plain ≤ MAX_PLAIN_LEN

-- on some stream a packet was written since the last tick
abbrev pub any_waits : List (ℕ × TxRecord) → Bool
any_waits es = list_any (λ e. needs_tick e.1.queue) es
