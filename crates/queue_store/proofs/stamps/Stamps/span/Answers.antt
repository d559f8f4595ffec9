use Rattle.std.proofs.Common.{◌≡◌, ◌-◌, ◌<◌, List, subst, arith, length}
use Rattle.queue_store.specs.declared.stamps.Stamp.{Stamp}
use Rattle.queue_store.specs.Stamps.{stamp_at}
use Rattle.queue_store.proofs.stamps.Stamps.span.Goals as goal

pub returns : goal.returns
returns c =
    subst (λ (l : List Stamp). 0 < length l → (stamp_at l (length l - 1)).position - (stamp_at l 0).position ≡ c.saturating_sub.result) c.self.view_is
    (λ some. omega (arith, c.self.invariant.1.first some, c.self.invariant.1.last some, c.saturating_sub.ensures))
