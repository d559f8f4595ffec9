use Rattle.std.proofs.Common.{◌∙◌, Option, ap, sym, subst}
use Rattle.std.specs.Option.{option_copied}
use Rattle.resend_core.specs.ResendStore.{HeldAs}
use Rattle.queue_store.proofs.HeldLaws.{held_as}
use Rattle.queue_store.proofs.QueueLaws.{value_found, value_missed}
use Rattle.queue_store.proofs.queue.QueueStoreResendStore.get.Goals as goal

pub returns-in_err-index-clause-value : goal.returns-in_err-index-clause-value
returns-in_err-index-clause-value g c = ap option_copied c.from_residual.ensures ∙ value_missed c.args.self.now c.args.position c.in_err-index.ensures

pub returns-in_err-index-clause-held : goal.returns-in_err-index-clause-held
returns-in_err-index-clause-held g c = λ past h.
    subst (λ (o : Option g.row.T.Denot). HeldAs past c.args.position o) (sym (ap option_copied c.from_residual.ensures ∙ value_missed c.args.self.now c.args.position c.in_err-index.ensures)) (held_as c.args.self.now past c.args.position h)

pub returns-clause-value : goal.returns-clause-value
returns-clause-value g c = c.get.ensures ∙ value_found c.args.self.now c.args.position c.in_ok-index.index c.in_ok-index.ensures

pub returns-clause-held : goal.returns-clause-held
returns-clause-held g c = λ past h.
    subst (λ (o : Option g.row.T.Denot). HeldAs past c.args.position o) (sym (c.get.ensures ∙ value_found c.args.self.now c.args.position c.in_ok-index.index c.in_ok-index.ensures)) (held_as c.args.self.now past c.args.position h)
