use Rattle.std.proofs.Common.{sym, subst, ◌∙◌}
use Rattle.rtx_core.specs.Resends.{Caches}
use Rattle.stream_core.specs.Repairing.{kept, counted, size_of_sent, number_of_sent}
use Rattle.stream_core.proofs.Mending.{counted_alone}
use Rattle.stream_core.proofs.repairing.keep.Goals as goal

pub returns-in_ok-cache_sent_packet-in-Some-clause-ok : goal.returns-in_ok-cache_sent_packet-in-Some-clause-ok
returns-in_ok-cache_sent_packet-in-Some-clause-ok g c = λ r h.
    let k = c.in_ok-cache_sent_packet-in-Some.ensures.ok r h in (
      k.0,
      kept c.in-Some.rtx_type k.0 (sym c.kept_as.ensures ∙ c.in-Some.is) (subst (λ s. Caches size_of_sent number_of_sent c.args.now s r k.0) c.in_ok-sent-in-Some.ensures k.1),
      k.2,
    )

pub returns-in_ok-count_sent-in-None-clause-ok : goal.returns-in_ok-count_sent-in-None-clause-ok
returns-in_ok-count_sent-in-None-clause-ok g c = λ r h. (
  _,
  counted (sym c.kept_as.ensures ∙ c.in-None.is),
  counted_alone g.S.ResendStore.stands_for c.args.repairs.now c.count_sent.new.self c.args.now c.len.result _ c.len.ensures c.in_ok-count_sent-in-None.ensures.ok r h,
)
