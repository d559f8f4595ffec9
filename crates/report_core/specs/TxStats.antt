-- The statistics of an outgoing stream.
use Rattle.std.specs.Prelude.{ℕ, ◌==◌, Bool, if◌then◌else◌, List, [], Option, Some, None}
use Rattle.std.specs.Option.{option_map, option_and_then}
use Rattle.twcc_core.specs.declared.share.Share.{Share}
use Rattle.report_core.specs.declared.traffic.Traffic.{Traffic}
use Rattle.report_core.specs.declared.stats.StreamStats.{StreamStats}
use Rattle.report_core.specs.declared.loss.ReportedLoss.{ReportedLoss}
use Rattle.report_core.specs.Traffic.{no_traffic, with_packet}
use Rattle.report_core.specs.Stats.{no_stats}
use Rattle.report_core.specs.Loss.{with_loss, loss_of, last_of}

-- what was counted, the repairs among it, and the losses reported, where they are kept
pub record TxStats : Type 0 where
  pub counted : StreamStats
  pub resent : Traffic
  pub losses : Option (List ReportedLoss)

-- nothing was counted
abbrev pub begun : (enable_stats : Bool) → TxStats
begun enable_stats = record { counted = no_stats; resent = no_traffic; losses = if enable_stats then Some [] else None }

-- a packet was sent, a repair or not
abbrev pub with_packet_sent : (bytes : ℕ) → (is_resend : Bool) → TxStats → TxStats
with_packet_sent bytes is_resend s = record s {
  counted = record s.counted { traffic = with_packet bytes s.counted.traffic };
  resent = if is_resend then with_packet bytes s.resent else s.resent;
}

-- a block came
abbrev pub after_block : ReportedLoss → TxStats → TxStats
after_block report s = record s { losses = option_map (with_loss report) s.losses }

-- the share lost since the last visit, and what is kept after it; without a byte sent nothing is visited
abbrev pub seen_of : TxStats → Option Share
seen_of s = if s.counted.traffic.bytes == 0 then None else option_and_then loss_of s.losses

abbrev pub after_seen : TxStats → TxStats
after_seen s = if s.counted.traffic.bytes == 0 then s else record s { losses = option_map last_of s.losses }
