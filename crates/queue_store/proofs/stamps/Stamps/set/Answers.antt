use Rattle.std.proofs.Common.{◌≡◌, ◌<◌, List, ap, sym, ◌∙◌, subst, length}
use Rattle.queue_store.specs.declared.stamps.Stamp.{Stamp}
use Rattle.queue_store.specs.Stamps.{stamp_at}
use Rattle.queue_store.proofs.StampLaws.{rises_set, ends_set}
use Rattle.queue_store.proofs.stamps.Stamps.set.Goals as goal

pub invariant_of-self : goal.invariant_of-self
invariant_of-self c =
    let items = c.self.inside.all.items in
    let within : c.args.index < length items = subst (λ (l : List Stamp). c.args.index < length l) (sym c.self.view_is) c.requires.within in
    let same : (stamp_at items c.args.index).position ≡ c.args.stamp.position = ap (λ (l : List Stamp). (stamp_at l c.args.index).position) c.self.view_is ∙ c.requires.same in
    (rises_set 0 items c.args.index c.args.stamp c.self.invariant.0 within same, ends_set items c.args.index c.args.stamp c.self.inside.low c.self.inside.high c.self.invariant.1 within same)
