use Rattle.std.proofs.Common.{◌≡◌, ℕ, List, refl, sym, ap, ◌∙◌, subst}
use Rattle.rtp_base.specs.declared.ids.MidRid.{MidRid}
use Rattle.pace_core.specs.declared.null.NullQueue.{NullQueue}
use Rattle.pace_core.specs.Null.{AreNoted, null_queues, queues_in}
use Rattle.pace_core.proofs.NullLaws.{noted_in}
use Rattle.pace_core.proofs.null.NullPacerPacer.handle_timeout.Goals as goal

pub returns-clause-ok : goal.returns-clause-ok
returns-clause-ok c = λ past h.
    let sends = c.args.self.now.sends in
    let noted : AreNoted sends c.as_slice.result.now =
    subst (λ (qs : List NullQueue). AreNoted sends qs) (sym (c.as_slice.ensures.value ∙ h.holds)) (subst (λ (s : List (MidRid × ℕ)). AreNoted s (queues_in past)) (sym h.has_sent) (noted_in past)) in
    let made : c.put_queues.new.all.items ≡ null_queues sends c.args.queues.now = c.in_ok-put_queues.ensures noted in
    record {
      does_not_leak = h.does_not_leak;
      holds = rw c.swap.ensures.x_after (made ∙ ap (λ (s : List (MidRid × ℕ)). null_queues s c.args.queues.now) h.has_sent);
      has_sent = h.has_sent;
      waits = refl;
    }
