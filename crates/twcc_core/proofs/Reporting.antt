-- The cases of a report.
use Rattle.std.proofs.Common.{◌≡◌, ℕ, ◌<◌, ltb, true, false, List, length, Option, Some, None, refl, sym, ap, ◌∙◌, arith}
use Rattle.std.specs.Prelude.{slice_get}
use Rattle.std.specs.Option.{option_map_or, option_and_then}
use Rattle.std.proofs.lemmas.Bool.{le-ltb, lt-ltb}
use Rattle.twcc_core.specs.declared.status.PacketStatus.{PacketStatus}
use Rattle.twcc_core.specs.Reports.{Receiving, unreported, report_rows, report_with, report_if, report_of, after_rows, after_report}

pub nothing_due : (r : Receiving) (sender ssrc limit : ℕ) → None ≡ slice_get (unreported r) 0 → (report_of r sender ssrc limit ≡ None) × (after_report r limit ≡ r)
unfolding report_of after_report
nothing_due r sender ssrc limit e = (rw (← e) refl, rw (← e) refl)

pub something_due : (r : Receiving) (sender ssrc limit : ℕ) (e : ℕ × ℕ) (rows : List PacketStatus) → Some e ≡ slice_get (unreported r) 0 → rows ≡ report_rows r.arrivals limit e
    → (report_of r sender ssrc limit ≡ report_if r sender ssrc e rows) × (after_report r limit ≡ after_rows r e rows)
unfolding report_of after_report
something_due r sender ssrc limit e rows due is = (
  ap (option_and_then (λ x. report_if r sender ssrc x (report_rows r.arrivals limit x))) (sym due) ∙ ap (report_if r sender ssrc e) (sym is),
  ap (λ (o : Option (ℕ × ℕ)). option_map_or (λ x. after_rows r x (report_rows r.arrivals limit x)) o r) (sym due) ∙ ap (after_rows r e) (sym is),
)

pub no_rows : (r : Receiving) (sender ssrc : ℕ) (e : ℕ × ℕ) (rows : List PacketStatus) → length rows ≡ 0 → (report_if r sender ssrc e rows ≡ None) × (after_rows r e rows ≡ r)
no_rows r sender ssrc e rows none = let t : ltb 0 (length rows) ≡ false = le-ltb _ _ (omega arith) in (rw t refl, rw t refl)

pub some_rows : (r : Receiving) (sender ssrc : ℕ) (e : ℕ × ℕ) (rows : List PacketStatus) → 0 < length rows → report_if r sender ssrc e rows ≡ Some (report_with r.reports sender ssrc e rows)
some_rows r sender ssrc e rows some = let t : ltb 0 (length rows) ≡ true = lt-ltb _ _ some in rw t refl
