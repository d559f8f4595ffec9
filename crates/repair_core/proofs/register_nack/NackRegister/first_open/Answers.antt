use Rattle.std.proofs.Common.{◌-◌, ◌<◌, ◌≤◌, max, arith, subst, sym, ⊎_elim}
use Rattle.std.proofs.lemmas.Bool.{cases_lt}
use Rattle.repair_core.specs.RegisterState.{RegisterState, IsQuiet}
use Rattle.repair_core.proofs.register_nack.NackRegister.first_open.Goals as goal

pub returns-then-needs-clause-settled : goal.returns-then-needs-clause-settled
returns-then-needs-clause-settled c = λ k from to below.
    let low : max c.self.inside.first (c.self.inside.greatest - 100) ≤ k = subst (λ (r : RegisterState). max r.first (r.greatest - 100) ≤ k) (sym c.self.view_is) from in
    ⊎_elim
    (λ (lt : k < c.self.inside.settled). subst (λ (r : RegisterState). IsQuiet r.first r.greatest r.slots c.self.inside.settled) c.self.view_is c.self.invariant.quiet k from to lt)
    (λ (ge : c.self.inside.settled ≤ k). c.loop-number.invariant k (omega arith) below)
    (cases_lt k c.self.inside.settled)

pub returns-clause-settled : goal.returns-clause-settled
returns-clause-settled c = λ k from to below.
    let low : max c.self.inside.first (c.self.inside.greatest - 100) ≤ k = subst (λ (r : RegisterState). max r.first (r.greatest - 100) ≤ k) (sym c.self.view_is) from in
    let high : k < c.self.inside.greatest = subst (λ (r : RegisterState). k < r.greatest) (sym c.self.view_is) to in
    ⊎_elim
    (λ (lt : k < c.self.inside.settled). subst (λ (r : RegisterState). IsQuiet r.first r.greatest r.slots c.self.inside.settled) c.self.view_is c.self.invariant.quiet k from to lt)
    (λ (ge : c.self.inside.settled ≤ k). c.loop-number.invariant k (omega arith) (omega arith))
    (cases_lt k c.self.inside.settled)
