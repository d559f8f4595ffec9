use Rattle.std.proofs.Common.{◌≡◌, ℕ, ◌<◌, List, sym, subst, arith, length}
use Rattle.queue_store.specs.declared.stamps.Stamp.{Stamp}
use Rattle.queue_store.specs.Stamps.{IsPlace}
use Rattle.queue_store.proofs.StampLaws.{end_place}
use Rattle.queue_store.proofs.stamps.Stamps.search.Goals as goal
use Rattle.queue_store.proofs.stamps.Stamps.search.Goals.{then-count-eq0-via-then-count-eq0, then-count-eq0-via-else-count-eq0+then-self-position}

pub returns-then-count-eq0-clause-missed : goal.returns-then-count-eq0-clause-missed
returns-then-count-eq0-clause-missed c =
    let items = c.self.inside.all.items in
    let count : c.len-count.result ≡ length items = omega (arith, c.len-count.ensures, c.self.inside.all.ok) in
    let above : 0 < length items → c.self.inside.high < c.args.position = λ some. elim c.then-count-eq0.branch [
      | then-count-eq0-via-then-count-eq0 w ↦ absurd (omega (arith, w.if-count-eq0.true))
      | then-count-eq0-via-else-count-eq0+then-self-position w ↦ omega (arith, w.if-self-position.true)
    ] in
    subst (λ (l : List Stamp). IsPlace l c.args.position c.len-count.result) c.self.view_is
    (subst (λ (n : ℕ). IsPlace items c.args.position n) (sym count) (end_place items c.self.inside.low c.self.inside.high c.args.position c.self.invariant.0 c.self.invariant.1 above))
