use Rattle.std.proofs.Common.{◌≡◌, Bor, ℕ, List, Some, None, slice_get, sym, ap, ◌∙◌}
use Rattle.std.specs.Map.{values_of}
use Rattle.std.specs.Prelude.{not}
use Rattle.indexmap.specs.IndexMap.{set_value_at}
use Rattle.stream_core.specs.Reporting.{tx_reported}
use Rattle.stream_core.specs.TxRecord.{TxRecord}
use Rattle.session_core.specs.Reports.{reports_in, sender_after}
use Rattle.session_core.specs.SessionRecord.{MediaRecord}
use Rattle.session_core.proofs.Reported.{stays_silent, reports_now, none_given, some_given}
use Rattle.session_core.proofs.Tables.{set_change, change_same}
use Rattle.session_core.proofs.reporting.report_at.Goals as goal

pub returns-then-is_none : goal.returns-then-is_none
returns-then-is_none g c =
    let es = c.args.streams.now.tx in
    let medias = c.args.medias.now in
    let mids = c.args.mids.now in
    let x = c.tx.result.now in
    let none : reports_in mids medias x ≡ None = sym (c.reports_in.ensures x (sym c.mid.ensures)) ∙ none_given _ _ (c.is_none.ensures ∙ ap not c.if-is_none.true) in
    ap (λ (l : List (ℕ × TxRecord)). record { threshold = c.args.streams.now.threshold; rx = c.args.streams.now.rx; known = c.args.streams.now.known; tx = l; repairs = c.args.streams.now.repairs })
    (sym (change_same (sender_after medias c.args.moment mids) es c.args.place x c.tx.ensures (stays_silent medias c.args.moment mids x none)))

pub returns : goal.returns
returns g c =
    let es = c.args.streams.now.tx in
    let medias = c.args.medias.now in
    let mids = c.args.mids.now in
    let now = c.args.moment in
    let x = c.tx.result.now in
    let y = c.tx_at.result.now in
    let first : slice_get (values_of es) c.args.place ≡ Some x = c.tx.ensures in
    let again : slice_get (values_of es) c.args.place ≡ Some y = c.tx_at.ensures.value in
    let same : x ≡ y = cc in
    let given = some_given (λ (m : Bor MediaRecord). m.now) _ (c.is_none.ensures ∙ ap not c.if-is_none.false) in
    let some : reports_in mids medias x ≡ Some given.0 = sym (c.reports_in.ensures x (sym c.mid.ensures)) ∙ given.1 in
    let done : sender_after medias now mids y ≡ c.reported.new.self =
    ap (sender_after medias now mids) (sym same) ∙ reports_now medias now mids x given.0 some ∙ ap (tx_reported now) same ∙ sym c.reported.ensures in
    ap (λ (l : List (ℕ × TxRecord)). record { threshold = c.args.streams.now.threshold; rx = c.args.streams.now.rx; known = c.args.streams.now.known; tx = l; repairs = c.args.streams.now.repairs })
    (ap (set_value_at es c.args.place) (sym done) ∙ set_change (sender_after medias now mids) es c.args.place y again)
