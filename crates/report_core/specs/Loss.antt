-- What receivers report as lost of an outgoing stream. A number that a u64 cannot hold is the greatest u64.
use Rattle.std.specs.Prelude.{ℕ, ◌+◌, ◌-◌, ◌*◌, ◌^◌, ◌==◌, nat_lt, min, if◌then◌else◌, List, [], ◌∷◌, ◌++◌, length, drop, position, Option, Some, None}
use Rattle.std.specs.List.{fold, insert}
use Rattle.rtp_base.specs.Widen.{widen32}
use Rattle.rtp_base.specs.declared.reception_report.ReceptionReport.{ReceptionReport}
use Rattle.twcc_core.specs.declared.share.Share.{Share}
use Rattle.report_core.specs.declared.loss.ReportedLoss.{ReportedLoss}
use Rattle.report_core.specs.declared.loss.Weighed.{Weighed}

-- what a block tells, its number widened by the last one sent
abbrev pub loss_told : (last_sent : ℕ) → ReceptionReport → ReportedLoss
loss_told last_sent block = record { number = widen32 (Some last_sent) block.max_seq; fraction_lost = block.fraction_lost }

-- at a place, or behind the others
abbrev pub put_at : Option ℕ → ReportedLoss → List ReportedLoss → List ReportedLoss
put_at None report reports = reports ++ report ∷ []
put_at (Some place) report reports = insert reports place report

-- before the first of a greater number
abbrev pub with_loss : ReportedLoss → List ReportedLoss → List ReportedLoss
with_loss report reports = put_at (position (λ r. nat_lt report.number r.number) reports) report reports

-- nothing is weighed up to a number
abbrev pub begun_at : ℕ → Weighed
begun_at number = record { number = number; lost = 0; covered = 0 }

-- a loss covers the numbers from the one before
abbrev pub and_weighed : Weighed → ReportedLoss → Weighed
and_weighed w r = let covered = r.number - w.number in record {
  number = r.number;
  lost = min (w.lost + min (covered * r.fraction_lost) (2 ^ 64 - 1)) (2 ^ 64 - 1);
  covered = min (w.covered + covered) (2 ^ 64 - 1);
}

-- losses one after another
abbrev pub weighed_of : (number : ℕ) → List ReportedLoss → Weighed
weighed_of number reports = fold and_weighed (begun_at number) reports

-- the share of the numbers covered that was lost; a loss of 255 is all of them
abbrev pub share_of : Weighed → Option Share
share_of w = if w.covered == 0 then None else Some (record { missing = w.lost; total = min (w.covered * 255) (2 ^ 64 - 1) })

-- the share lost, from the first number on
abbrev pub loss_of : List ReportedLoss → Option Share
loss_of [] = None
loss_of (r ∷ rs) = share_of (weighed_of r.number (r ∷ rs))

-- the last one
abbrev pub last_of : List ReportedLoss → List ReportedLoss
last_of reports = drop (length reports - 1) reports
