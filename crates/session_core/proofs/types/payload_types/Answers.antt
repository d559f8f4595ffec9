use Rattle.std.proofs.Common.{◌≡◌, ◌+◌, [], ◌∷◌, ◌++◌, take, sym, ap, ◌∙◌}
use Rattle.std.proofs.lemmas.List.{take_all, take_more}
use Rattle.payload_core.specs.declared.params.PayloadParams.{PayloadParams}
use Rattle.session_core.specs.Types.{with_params, types_of}
use Rattle.session_core.proofs.TypeRows.{types_more}
use Rattle.session_core.proofs.types.payload_types.Goals as goal

pub loop-codec-preserved : goal.loop-codec-preserved
loop-codec-preserved c =
    let ps = c.params-codec-items.result.now in
    let i = c.loop-codec.codec-index in
    let p = c.codec-item.result in
    let more : take (i + 1) ps ≡ take i ps ++ p ∷ [] = take_more ps i p c.loop-codec-test.true ∙ sym (ap (λ (q : PayloadParams). take i ps ++ q ∷ []) c.codec-item.is) in
    c.in_ok-add_params.ensures
    ∙ ap (with_params p) c.loop-codec.invariant
    ∙ sym (types_more [] (take i ps) p)
    ∙ ap types_of (sym more)

pub returns : goal.returns
returns c = c.loop-codec.invariant ∙ ap types_of (take_all c.loop-codec.codec-index c.params-codec-items.result.now c.loop-codec-test.false ∙ c.params-codec-items.ensures)
