use Rattle.std.proofs.Common.{◌≡◌, ◌<◌, ◌++◌, Bool, List, Some, length, slice_get, take, sym, ap, subst, ◌∙◌, add-one, arith}
use Rattle.std.specs.List.{AllByRecursion}
use Rattle.std.specs.Prelude.{◌||◌, is_some}
use Rattle.std.specs.Map.{values_of}
use Rattle.std.specs.Option.{option_map}
use Rattle.rtcp_wire.specs.declared.packet.Rtcp.{Rtcp}
use Rattle.stream_core.specs.TxRecord.{TxRecord}
use Rattle.session_core.specs.Feedback.{FitsAlone}
use Rattle.session_core.specs.Reports.{items_under, reports_in, sender_items_with, some_reports}
use Rattle.session_core.proofs.Fitting.{all_append}
use Rattle.session_core.proofs.Tables.{value_there, items_step, any_step}
use Rattle.session_core.proofs.reporting.sender_items.Goals as goal

pub loop-place-preserved : goal.loop-place-preserved
loop-place-preserved g c =
    let medias = c.args.medias.now in
    let mids = c.args.mids.now in
    let types = c.args.time.now.types.now in
    let beginning = c.args.time.now.beginning.now in
    let now = c.args.time.now.moment in
    let i = c.loop-place.place in
    let all = c.args.streams.now.tx in
    let inv = c.loop-place.invariant in
    let within : i < length all = omega (arith, c.tx_len-place-end.ensures) in
    let there = value_there all i within in
    let x = there.0 in
    let at : slice_get (values_of all) i ≡ Some x = there.1 in
    let told : Some (is_some (reports_in mids medias x)) ≡ Some c.in_ok-said.said =
    ap (option_map (λ (y : TxRecord). is_some (reports_in mids medias y))) (sym at) ∙ c.in_ok-said.ensures.some in
    let said : is_some (reports_in mids medias x) ≡ c.in_ok-said.said = cc in
    let items = c.in_ok-said.ensures.said x at in
    let more = c.in_ok-said.ensures.fit in
    record {
      some =
          ap (λ (b : Bool). b || c.in_ok-said.said) inv.some
          ∙ ap (λ (b : Bool). some_reports medias mids (take i all) || b) (sym said)
          ∙ sym (any_step (λ y. is_some (reports_in mids medias y)) i all x at)
          ∙ ap (λ n. some_reports medias mids (take n all)) (sym (add-one i));
      said =
          items
          ∙ ap (λ (l : List Rtcp). l ++ items_under types beginning now x (reports_in mids medias x)) inv.said
          ∙ sym (items_step (λ y. items_under types beginning now y (reports_in mids medias y)) i all x at)
          ∙ ap (λ n. sender_items_with types beginning medias now mids (take n all)) (sym (add-one i));
      fit = subst (λ (l : List Rtcp). AllByRecursion FitsAlone l) (sym more.1) (all_append FitsAlone c.loop-place.items.items more.0 inv.fit more.2);
    }
