-- What a report tells, and what is kept behind it.
use Rattle.std.proofs.Common.{◌≡◌, ℕ, ◌+◌, ◌-◌, ◌%◌, ◌<◌, ltb, List, length, filter, Some, None, sym, ap, ◌∙◌}
use Rattle.std.specs.Prelude.{slice_get}
use Rattle.twcc_core.specs.declared.status.PacketStatus.{PacketStatus}
use Rattle.twcc_core.specs.declared.feedback.Twcc.{Twcc}
use Rattle.twcc_core.specs.Reports.{Receiving, Kept, StandsFor, kept_of, report_rows, report_with, report_of, after_report}
use Rattle.twcc_core.proofs.Keeping.{due_rows, report_stands, pending_told}
use Rattle.twcc_core.proofs.Reporting.{nothing_due, something_due, no_rows, some_rows}

pub none_report : (k : Kept) (r : Receiving) (sender ssrc limit : ℕ) → None ≡ slice_get k.pending 0 → StandsFor k r → None ≡ report_of r sender ssrc limit
none_report k r sender ssrc limit e h = sym (nothing_due r sender ssrc limit (e ∙ pending_told k r h)).0

pub none_after : (k : Kept) (r : Receiving) (limit : ℕ) → None ≡ slice_get k.pending 0 → StandsFor k r → StandsFor k (after_report r limit)
unfolding StandsFor
none_after k r limit e h = h ∙ ap kept_of (sym (nothing_due r 0 0 limit (e ∙ pending_told k r h)).1)

pub empty_report : (k : Kept) (r : Receiving) (sender ssrc limit : ℕ) (first : ℕ × ℕ) (rows : List PacketStatus) → StandsFor k r → Some first ≡ slice_get k.pending 0 → rows ≡ report_rows k.arrivals limit first → length rows ≡ 0
    → None ≡ report_of r sender ssrc limit
empty_report k r sender ssrc limit first rows h e is none =
    let due = e ∙ pending_told k r h in
    sym ((something_due r sender ssrc limit first rows due (is ∙ due_rows k r limit first h (sym due))).0 ∙ (no_rows r sender ssrc first rows none).0)

pub empty_after : (k : Kept) (r : Receiving) (limit : ℕ) (first : ℕ × ℕ) (rows : List PacketStatus) → StandsFor k r → Some first ≡ slice_get k.pending 0 → rows ≡ report_rows k.arrivals limit first → length rows ≡ 0
    → StandsFor k (after_report r limit)
unfolding StandsFor
empty_after k r limit first rows h e is none =
    let due = e ∙ pending_told k r h in
    h ∙ ap kept_of (sym ((something_due r 0 0 limit first rows due (is ∙ due_rows k r limit first h (sym due))).1 ∙ (no_rows r 0 0 first rows none).1))

pub some_report : (k : Kept) (r : Receiving) (sender ssrc limit : ℕ) (first : ℕ × ℕ) (rows : List PacketStatus) → StandsFor k r → Some first ≡ slice_get k.pending 0 → rows ≡ report_rows k.arrivals limit first → 0 < length rows
    → Some (report_with k.reports sender ssrc first rows) ≡ report_of r sender ssrc limit
unfolding StandsFor
some_report k r sender ssrc limit first rows h e is some =
    let due = e ∙ pending_told k r h in
    let made : ℕ → Twcc = λ n. report_with n sender ssrc first rows in
    ap (λ (x : Kept). Some (made x.reports)) h ∙ sym ((something_due r sender ssrc limit first rows due (is ∙ due_rows k r limit first h (sym due))).0 ∙ some_rows r sender ssrc first rows some)

pub some_after : (k : Kept) (r : Receiving) (limit : ℕ) (first : ℕ × ℕ) (rows : List PacketStatus) (last : ℕ) → StandsFor k r → Some first ≡ slice_get k.pending 0 → rows ≡ report_rows k.arrivals limit first → 0 < length rows → last ≡ first.0 + (length rows - 1)
    → StandsFor (record { arrivals = k.arrivals; pending = filter (λ e. ltb last e.0) k.pending; lowest = k.lowest; reports = (k.reports + 1) % 256 }) (after_report r limit)
unfolding StandsFor
some_after k r limit first rows last h e is some at =
    let due = e ∙ pending_told k r h in
    report_stands k r first rows last h some at ∙ ap kept_of (sym (something_due r 0 0 limit first rows due (is ∙ due_rows k r limit first h (sym due))).1)
