use Rattle.std.proofs.Common.{◌≡◌, List, Option, sym, subst, drop, arith}
use Rattle.std.proofs.lemmas.Grind.{common_steps}
use Rattle.std.specs.Option.{IfSome}
use Rattle.queue_store.specs.declared.stamps.Stamp.{Stamp}
use Rattle.queue_store.specs.Stamps.{first_of, AllAbove}
use Rattle.queue_store.proofs.StampLaws.{above_first}
use Rattle.queue_store.proofs.stamps.Stamps.first.Goals as goal

pub returns-clause-above : goal.returns-clause-above
returns-clause-above c =
    subst (λ (o : Option Stamp). IfSome o (λ s. AllAbove s.position (drop 1 c.args.self.now))) (sym value)
    (subst (λ (l : List Stamp). IfSome (first_of l) (λ s. AllAbove s.position (drop 1 l))) c.self.view_is (above_first 0 c.self.inside.all.items c.self.invariant.0)) where
      value : c.copied.result ≡ first_of c.args.self.now
      value = grind (arith, common_steps)
