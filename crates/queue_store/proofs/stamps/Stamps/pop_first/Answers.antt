use Rattle.std.proofs.Common.{◌≡◌, ◌<◌, ◌∙◌, List, ap, sym, subst, length, drop, get_or}
use Rattle.std.proofs.lemmas.List.{get_or_default}
use Rattle.queue_store.specs.declared.stamps.Stamp.{Stamp}
use Rattle.queue_store.specs.Stamps.{Rises, AreEnds, stamp_at, no_stamp}
use Rattle.queue_store.proofs.StampLaws.{rises_drop, ends_drop}
use Rattle.queue_store.proofs.stamps.Stamps.pop_first.Goals as goal

pub invariant_of-self : goal.invariant_of-self
invariant_of-self c =
    let items = c.self.inside.all.items in
    let new = c.pop_front.new.self.items in
    let first = c.in-Some.first.now in
    let rest : new ≡ drop 1 items = c.pop_front.ensures.rest in
    let at : 0 < length (drop 1 items) → (stamp_at (drop 1 items) 0).position ≡ first.position =
    λ some. ap (λ (s : Stamp). s.position)
    (get_or_default (drop 1 items) 0 no_stamp first some ∙ ap (λ (l : List Stamp). get_or l 0 first) (sym rest) ∙ sym c.in-Some.ensures.lookup) in
    (subst (λ (l : List Stamp). Rises 0 l) (sym rest) (rises_drop 0 items c.self.invariant.0), subst (λ (l : List Stamp). AreEnds l first.position c.self.inside.high) (sym rest) (ends_drop items c.self.inside.low c.self.inside.high first.position c.self.invariant.1 at))
