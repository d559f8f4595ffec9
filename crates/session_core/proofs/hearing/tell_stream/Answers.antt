use Rattle.std.proofs.Common.{ℕ, List, refl, sym, ap, ◌∙◌}
use Rattle.std.specs.Prelude.{Option}
use Rattle.std.specs.Option.{option_map_or}
use Rattle.indexmap.specs.IndexMap.{set_value_at}
use Rattle.stream_core.specs.Tables.{change_place}
use Rattle.stream_core.specs.TxRecord.{TxRecord, told_by}
use Rattle.session_core.proofs.Cuts.{on_err}
use Rattle.session_core.proofs.Tables.{set_change, change_same}
use Rattle.session_core.proofs.hearing.tell_stream.Goals as goal

pub returns-in_ok-handle_rtcp-clause-ok : goal.returns-in_ok-handle_rtcp-clause-ok
returns-in_ok-handle_rtcp-clause-ok g c =
    let es = c.args.streams.now.tx in
    let told = told_by c.args.item.now in
    ap (λ (l : List (ℕ × TxRecord)). record { threshold = c.args.streams.now.threshold; rx = c.args.streams.now.rx; known = c.args.streams.now.known; tx = l; repairs = c.args.streams.now.repairs })
    (ap (set_value_at es c.in-Some.place) c.in_ok-handle_rtcp.ensures.ok
    ∙ set_change told es c.in-Some.place c.tx_at.result.now c.tx_at.ensures.value
    ∙ ap (λ (o : Option ℕ). option_map_or (change_place told es) o es) (sym (sym c.tx_place.ensures.place ∙ c.in-Some.is)))

pub returns-in_err-handle_rtcp-clause-err : goal.returns-in_err-handle_rtcp-clause-err
returns-in_err-handle_rtcp-clause-err g c =
    let es = c.args.streams.now.tx in
    let kept = λ (x : TxRecord). x in
    let same =
    ap (set_value_at es c.in-Some.place) c.in_err-handle_rtcp.ensures.err
    ∙ set_change kept es c.in-Some.place c.tx_at.result.now c.tx_at.ensures.value
    ∙ change_same kept es c.in-Some.place c.tx_at.result.now c.tx_at.ensures.value refl in
    on_err c.from_residual.result _ (λ j. record { threshold = c.args.streams.now.threshold; rx = c.args.streams.now.rx; known = c.args.streams.now.known; tx = same j; repairs = c.args.streams.now.repairs })
