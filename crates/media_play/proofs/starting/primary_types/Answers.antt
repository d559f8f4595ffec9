use Rattle.std.proofs.Common.{◌≡◌, ℕ, ◌+◌, List, [], ◌∷◌, ◌++◌, map, take, sym, ap, ◌∙◌}
use Rattle.std.proofs.lemmas.List.{take_all, take_more, map-append}
use Rattle.media_model.specs.declared.setup.PayloadType.{PayloadType}
use Rattle.media_play.proofs.starting.primary_types.Goals as goal

pub loop-row-preserved : goal.loop-row-preserved
loop-row-preserved c =
    let ts = c.as_slice-row-items.result.now in
    let i = c.loop-row.row-index in
    let t = c.row-item.result in
    let pts : List PayloadType → List ℕ = map (λ (u : PayloadType). u.pt) in
    let more : take (i + 1) ts ≡ take i ts ++ t ∷ [] = take_more ts i t c.loop-row-test.true ∙ sym (ap (λ (u : PayloadType). take i ts ++ u ∷ []) c.row-item.is) in
    c.in_ok-push.ensures.ok
    ∙ ap (λ (l : List ℕ). l ++ t.pt ∷ []) c.loop-row.invariant
    ∙ sym (map-append (λ (u : PayloadType). u.pt) (take i ts) (t ∷ []))
    ∙ ap pts (sym more)

pub returns : goal.returns
returns c =
    let pts : List PayloadType → List ℕ = map (λ (u : PayloadType). u.pt) in
    c.loop-row.invariant ∙ ap pts (take_all c.loop-row.row-index c.as_slice-row-items.result.now c.loop-row-test.false ∙ c.as_slice-row-items.ensures)
