use Rattle.std.proofs.Common.{◌≡◌, ◌∙◌, ℕ, true, false, ap, sym, subst}
use Rattle.repair_core.specs.declared.register_nack.NackRegister.{NackRegister}
use Rattle.repair_core.specs.Fresh.{is_fresh}
use Rattle.repair_core.specs.Rounds.{came, taken}
use Rattle.repair_core.specs.NackRegister.{put_number, StandsFor, Remembers}
use Rattle.repair_core.specs.Fresh.{with_number}
use Rattle.repair_core.proofs.RegisterLaws.{put_number_is}
use Rattle.repair_core.proofs.RoundLaws.{came_fresh, came_stale}
use Rattle.repair_core.proofs.register_nack.NackRegister.update.Goals as goal

pub returns-then-fresh-clause-remembers : goal.returns-then-fresh-clause-remembers
returns-then-fresh-clause-remembers c = λ past m.
    let fresh : is_fresh (taken past) c.args.seq ≡ true = sym (c.accepts-fresh.ensures.fresh (taken past) m.stands) ∙ c.if-fresh.true in
    subst (λ (s : NackRegister). Remembers s (came past c.args.seq)) (sym (c.settle.ensures ∙ c.put.ensures ∙ ap (λ (n : ℕ). put_number c.args.self.now n) c.from.ensures)) (came_fresh c.args.self.now past c.args.seq fresh m)

pub returns-else-fresh-clause-remembers : goal.returns-else-fresh-clause-remembers
returns-else-fresh-clause-remembers c = λ past m.
    let stale : is_fresh (taken past) c.args.seq ≡ false = sym (c.accepts-fresh.ensures.fresh (taken past) m.stands) ∙ c.if-fresh.false in
    came_stale c.args.self.now past c.args.seq stale m

pub returns-then-fresh-clause-taken : goal.returns-then-fresh-clause-taken
returns-then-fresh-clause-taken c = λ l h.
    subst (λ (s : NackRegister). StandsFor s (with_number l c.args.seq)) (sym (c.settle.ensures ∙ c.put.ensures ∙ ap (λ (n : ℕ). put_number c.args.self.now n) c.from.ensures))
    (put_number_is c.args.self.now l c.args.seq h (sym (c.accepts-fresh.ensures.fresh l h) ∙ c.if-fresh.true))
