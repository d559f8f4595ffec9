use Rattle.std.proofs.Common.{◌≡◌, ◌∙◌, ℕ, List, refl, ap, sym, subst, arith, length}
use Rattle.std.specs.List.{insert}
use Rattle.std.proofs.lemmas.List.Edits.{insert_end}
use Rattle.queue_store.specs.declared.stamps.Stamp.{Stamp}
use Rattle.queue_store.specs.Stamps.{IsPlace}
use Rattle.queue_store.proofs.StampLaws.{put_keeps}
use Rattle.queue_store.proofs.stamps.Stamps.insert.Goals as goal
use Rattle.queue_store.proofs.stamps.Stamps.insert.Goals.{then-index-eq0, else-index-eq0}

pub invariant_of-self-then-index-len : goal.invariant_of-self-then-index-len
invariant_of-self-then-index-len c =
    let items = c.self.inside.all.items in
    let new = c.push_back.new.self.items in
    let low = c.self.inside.low in
    let high = c.self.inside.high in
    let end : c.args.index ≡ length items = omega (arith, c.if-index-len.true, c.len.ensures, c.self.inside.all.ok) in
    let is : new ≡ insert items c.args.index c.args.stamp = c.in_ok-push_back.ensures.items ∙ sym (ap (λ (n : ℕ). insert items n c.args.stamp) end ∙ insert_end items c.args.stamp) in
    let place : IsPlace items c.args.stamp.position c.args.index = subst (λ (l : List Stamp). IsPlace l c.args.stamp.position c.args.index) (sym c.self.view_is) c.requires in
    elim c.if-index-eq0.branch [
      | then-index-eq0 w ↦
          rw w.self-inside-is
          (put_keeps items new c.args.index c.args.stamp low high c.args.stamp.position c.args.stamp.position c.self.invariant.0 c.self.invariant.1 place is (λ z. refl) (λ ne. absurd (ne w.if-index-eq0.true)) (λ z. refl) (λ ne. absurd (ne end)))
      | else-index-eq0 w ↦
          rw w.self-inside-is
          (put_keeps items new c.args.index c.args.stamp low high low c.args.stamp.position c.self.invariant.0 c.self.invariant.1 place is (λ z. absurd (w.if-index-eq0.false z)) (λ ne. refl) (λ z. refl) (λ ne. absurd (ne end)))
    ]
