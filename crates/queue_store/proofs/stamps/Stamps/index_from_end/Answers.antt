use Rattle.std.proofs.Common.{◌≡◌, ◌-◌, ◌<◌, List, sym, ◌∙◌, subst, arith, length}
use Rattle.std.proofs.lemmas.List.{get_or_default}
use Rattle.queue_store.specs.declared.stamps.Stamp.{Stamp}
use Rattle.queue_store.specs.Stamps.{IsFound, stamp_at, no_stamp}
use Rattle.queue_store.proofs.StampLaws.{found_at}
use Rattle.queue_store.proofs.stamps.Stamps.index_from_end.Goals as goal

pub returns-then-index-position : goal.returns-then-index-position
returns-then-index-position c =
    let items = c.self.inside.all.items in
    let i = c.len-count.result - 1 - c.args.distance in
    let within : i < length items = omega (arith, c.len-count.ensures, c.self.inside.all.ok, c.if-count-distance.false) in
    let is : stamp_at items i ≡ c.index.result.now = get_or_default items i no_stamp c.index.result.now within ∙ sym c.index.ensures in
    let here : (stamp_at items i).position ≡ c.args.position = subst (λ (s : Stamp). s.position ≡ c.args.position) (sym is) c.if-index-position.true in
    subst (λ (l : List Stamp). IsFound l c.args.position i) c.self.view_is (found_at items c.args.position i c.self.invariant.0 within here)
