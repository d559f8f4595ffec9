use Rattle.std.proofs.Common.{◌≢◌, ◌<◌, List, refl, sym, subst, arith, length}
use Rattle.queue_store.specs.declared.stamps.Stamp.{Stamp}
use Rattle.queue_store.specs.Stamps.{IsPlace}
use Rattle.queue_store.proofs.StampLaws.{put_keeps}
use Rattle.queue_store.proofs.stamps.Stamps.insert_inside.Goals as goal

pub invariant_of-self-then-index-eq0 : goal.invariant_of-self-then-index-eq0
invariant_of-self-then-index-eq0 c =
    let items = c.self.inside.all.items in
    let inside : c.args.index < length items = subst (λ (l : List Stamp). c.args.index < length l) (sym c.self.view_is) c.requires.inside in
    let before : c.args.index ≢ length items = λ e. omega arith in
    put_keeps items c.insert.new.self.items c.args.index c.args.stamp c.self.inside.low c.self.inside.high c.args.stamp.position c.self.inside.high c.self.invariant.0 c.self.invariant.1
    (subst (λ (l : List Stamp). IsPlace l c.args.stamp.position c.args.index) (sym c.self.view_is) c.requires.place)
    c.in_ok-insert.ensures.items (λ z. refl) (λ ne. absurd (ne c.if-index-eq0.true)) (λ z. absurd (before z)) (λ ne. refl)

pub invariant_of-self-else-index-eq0 : goal.invariant_of-self-else-index-eq0
invariant_of-self-else-index-eq0 c =
    let items = c.self.inside.all.items in
    let inside : c.args.index < length items = subst (λ (l : List Stamp). c.args.index < length l) (sym c.self.view_is) c.requires.inside in
    let before : c.args.index ≢ length items = λ e. omega arith in
    put_keeps items c.insert.new.self.items c.args.index c.args.stamp c.self.inside.low c.self.inside.high c.self.inside.low c.self.inside.high c.self.invariant.0 c.self.invariant.1
    (subst (λ (l : List Stamp). IsPlace l c.args.stamp.position c.args.index) (sym c.self.view_is) c.requires.place)
    c.in_ok-insert.ensures.items (λ z. absurd (c.if-index-eq0.false z)) (λ ne. refl) (λ z. absurd (before z)) (λ ne. refl)
