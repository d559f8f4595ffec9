-- What streams count of their packets for reports.
use Rattle.std.specs.Prelude.{ℕ, ◌+◌, ◌-◌, Bool, true, length, List, [], ◌∷◌, Option, Some, None}
use Rattle.std.specs.Option.{option_map}
use Rattle.repair_core.specs.Counts.{no_counts, counted, after_point}
use Rattle.repair_core.specs.declared.jitter.TimePoint.{TimePoint}
use Rattle.report_core.specs.LastReport.{no_news}
use Rattle.report_core.specs.Times.{time_after}
use Rattle.report_core.specs.Stats.{no_stats}
use Rattle.report_core.specs.Traffic.{more, no_traffic, with_packet}
use Rattle.report_core.specs.declared.stats.StreamStats.{StreamStats}
use Rattle.rtp_base.specs.declared.keyframe_request.KeyframeRequestKind.{KeyframeRequestKind}
use Rattle.rtp_base.specs.declared.keyframe_request.KeyframeRequestKind.TheVariants.{Pli, Fir}
use Rattle.rtp_base.specs.declared.media_time.MediaTime.{MediaTime}
use Rattle.rtp_base.specs.declared.nack_entry.NackEntry.{NackEntry}
use Rattle.rtp_wire.specs.declared.header.TheConstants.{ORIGINAL_NUMBER_LEN}
use Rattle.stream_core.specs.declared.packet.RtpPacket.{RtpPacket}
use Rattle.stream_core.specs.declared.reports.Arrival.{Arrival}
use Rattle.stream_core.specs.declared.reports.RxReports.{RxReports}
use Rattle.stream_core.specs.declared.reports.TxReports.{TxReports}
use Rattle.stream_core.specs.declared.stream_tx.PacketReceipt.{PacketReceipt}

-- when a packet came, for the jitter
abbrev pub point_of : Arrival → TimePoint
point_of a = record { arrival = a.now; rtp_time = a.rtp_time; clock_rate = a.clock }

-- what opened counts with the bytes of its payload; padding alone does not count
abbrev pub counted_of : Option ℕ → StreamStats → StreamStats
counted_of None t = t
counted_of (Some bytes) t = record t { traffic = with_packet bytes t.traffic }

-- a key frame was asked for, without or with a number; and packets were, where entries name them
abbrev pub asked_of : Option KeyframeRequestKind → StreamStats → StreamStats
asked_of None t = t
asked_of (Some Pli) t = record t { plis = more t.plis 1 }
asked_of (Some Fir) t = record t { firs = more t.firs 1 }

abbrev pub nacked_of : List NackEntry → StreamStats → StreamStats
nacked_of [] t = t
nacked_of (x ∷ xs) t = record t { nacks = more t.nacks 1 }

-- an incoming stream on which nothing came and that never reported
abbrev pub no_rx_reports : RxReports
no_rx_reports = record { counts = no_counts; clock = record { last = 0 }; news = no_news; times = record { last = None }; stats = no_stats }

-- all begins anew, but the statistics stay
abbrev pub rx_reports_anew : RxReports → RxReports
rx_reports_anew x = record no_rx_reports { stats = x.stats }

-- a packet came under a fresh number
abbrev pub with_arrival : Arrival → ℕ → RxReports → RxReports
with_arrival a n x = record x { counts = counted n true (point_of a) x.counts; stats = counted_of a.payload_len x.stats }

-- the RTP time of a packet, widened by the last one of the stream, where the stream was paused before the packet or not
abbrev pub time_of : (was_paused : Bool) → Arrival → RxReports → MediaTime
time_of was_paused a x =
    record { numer = time_after (option_map (λ t. t.numer) x.times.last) was_paused a.rtp_time; frequency = a.clock }

-- it is the stream's last one from then on
abbrev pub with_time : (was_paused : Bool) → Arrival → RxReports → RxReports
with_time was_paused a x = record x { times = record { last = Some (time_of was_paused a x) } }

-- a packet came under a number that is not fresh: of what reports tell it enters the jitter alone
abbrev pub with_late : Arrival → RxReports → RxReports
with_late a x = record x { counts = after_point (point_of a) x.counts; stats = counted_of a.payload_len x.stats }

-- what was counted for reports is forgotten; what the sender reported, the last time, when the next report is due, and the
-- statistics stay
abbrev pub forgotten : RxReports → RxReports
forgotten x = record x { counts = no_counts }

-- an outgoing stream on which nothing was written, of a kind that was not told
abbrev pub no_tx_reports : TxReports
no_tx_reports = record {
  clock = record { last = 0; is_audio = None };
  written = None;
  sealed_type = None;
  last_sent = 0;
  sent = no_traffic;
  resent = no_traffic;
  nacks = 0;
  plis = 0;
  firs = 0;
}

-- all begins anew, but of which kind the stream is stays told
abbrev pub tx_reports_anew : TxReports → TxReports
tx_reports_anew x = record no_tx_reports { clock = record { last = 0; is_audio = x.clock.is_audio } }

-- a packet was written with this RTP time, which its media had at a moment
abbrev pub with_write : ℕ → ℕ → TxReports → TxReports
with_write time wallclock x = record x { written = Some (record { rtp_time = time; wallclock = wallclock }) }

-- a packet is sealed for the first time, if there is one
abbrev pub with_first_of : Option RtpPacket → TxReports → TxReports
with_first_of None x = x
with_first_of (Some p) x = record x {
  sealed_type = Some p.header.payload_type;
  last_sent = p.seq_no;
  sent = with_packet (length p.payload) x.sent;
}

-- a packet is sent again: its payload stands behind the header and the two bytes of the original number (RFC 4588 section 4)
abbrev pub with_repair : PacketReceipt → TxReports → TxReports
with_repair p x = record x {
  sent = with_packet (length p.plain - (p.header.header_len + ORIGINAL_NUMBER_LEN)) x.sent;
  resent = with_packet (length p.plain - (p.header.header_len + ORIGINAL_NUMBER_LEN)) x.resent;
}

-- an item came that asks for packets, or one that asks for a key frame without or with a number
abbrev pub with_nack : TxReports → TxReports
with_nack x = record x { nacks = more x.nacks 1 }

abbrev pub with_pli : TxReports → TxReports
with_pli x = record x { plis = more x.plis 1 }

abbrev pub with_fir : TxReports → TxReports
with_fir x = record x { firs = more x.firs 1 }

-- what was counted: what was sealed, repairs among it, and what its receivers asked for
abbrev pub stats_of : TxReports → StreamStats
stats_of x = record { traffic = x.sent; nacks = x.nacks; plis = x.plis; firs = x.firs }
