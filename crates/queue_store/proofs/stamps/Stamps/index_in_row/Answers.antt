use Rattle.std.proofs.Common.{◌-◌, ◌<◌, List, subst, arith, length}
use Rattle.queue_store.specs.declared.stamps.Stamp.{Stamp}
use Rattle.queue_store.specs.Stamps.{IsFound}
use Rattle.queue_store.proofs.StampLaws.{row_found}
use Rattle.queue_store.proofs.stamps.Stamps.index_in_row.Goals as goal

pub returns : goal.returns
returns c =
    let items = c.self.inside.all.items in
    let low = c.self.inside.low in
    let high = c.self.inside.high in
    let ok = c.self.inside.all.ok in
    let some : 0 < length items = omega (arith, c.len-count.ensures, ok, c.if-count-eq0.false) in
    subst (λ (l : List Stamp). IsFound l c.args.position (c.args.position - low)) c.self.view_is
    (row_found items low high c.args.position c.self.invariant.0 c.self.invariant.1 some (omega (arith, c.if-position-self.false)) (omega (arith, c.if-self-position.false)) (omega (arith, c.len-count.ensures, ok, c.if-self-count.false)))
