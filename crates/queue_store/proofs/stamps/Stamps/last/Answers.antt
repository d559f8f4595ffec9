use Rattle.std.proofs.Common.{◌≡◌, ◌<◌, ◌-◌, ℕ, List, ap, sym, ◌∙◌, subst, arith, length, get_or}
use Rattle.std.proofs.lemmas.List.{get_or_default}
use Rattle.queue_store.specs.declared.stamps.Stamp.{Stamp}
use Rattle.queue_store.specs.Stamps.{IsGreatest, no_stamp}
use Rattle.queue_store.proofs.StampLaws.{last_is}
use Rattle.queue_store.proofs.stamps.Stamps.last.Goals as goal

pub returns-clause-some : goal.returns-clause-some
returns-clause-some c =
    let items = c.self.inside.all.items in
    let ok = c.self.inside.all.ok in
    let count : c.len-count.result ≡ length items = omega (arith, c.len-count.ensures, ok) in
    let some : 0 < length items = omega (arith, count, c.if-count-eq0.false) in
    subst (λ (l : List Stamp). IsGreatest l c.index.result.now) c.self.view_is
    (last_is items c.index.result.now c.self.invariant.0 some
    (c.index.ensures ∙ ap (λ (n : ℕ). get_or items (n - 1) c.index.result.now) count ∙ sym (get_or_default items (length items - 1) no_stamp c.index.result.now (omega arith))))
