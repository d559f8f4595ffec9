use Rattle.std.proofs.Common.{ap, sym, subst}
use Rattle.session_core.specs.Feedback.{AreLeft, items_kept, items_lost}
use Rattle.session_core.proofs.Cuts.{on_err}
use Rattle.session_core.proofs.feedback.poll_compound.Goals as goal

pub returns-then-is_used_up-clause-lost : goal.returns-then-is_used_up-clause-lost
returns-then-is_used_up-clause-lost g c = items_kept

pub returns-in_err-plain-clause-lost : goal.returns-in_err-plain-clause-lost
returns-in_err-plain-clause-lost g c =
    on_err c.from_residual.result _ (subst (AreLeft c.args.target c.args.items.now.items) (ap (λ v. v.items) (sym c.in_err-plain.ensures.err)) items_kept)

pub returns-in-Err-clause-lost : goal.returns-in-Err-clause-lost
returns-in-Err-clause-lost g c = subst (AreLeft c.args.target c.args.items.now.items) (sym c.in_ok-plain.ensures.left) items_lost
