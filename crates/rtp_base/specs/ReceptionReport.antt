-- Reception blocks (RFC 3550 section 6.4.1).
use Rattle.std.specs.Prelude.{◌<◌, ◌^◌}
use Rattle.rtp_base.specs.Fields.{IsSigned24}
use Rattle.rtp_base.specs.declared.reception_report.ReceptionReport.{ReceptionReport}

-- the fields of a block fit their places on the wire
pub record IsReceptionReport (r : ReceptionReport) : Type 0 where
  pub ssrc : r.ssrc < 2 ^ 32
  pub fraction : r.fraction_lost < 256
  pub lost : IsSigned24 r.packets_lost
  pub greatest : r.max_seq < 2 ^ 32
  pub jitter : r.jitter < 2 ^ 32
  pub last : r.last_sr_time < 2 ^ 32
  pub delay : r.last_sr_delay < 2 ^ 32
