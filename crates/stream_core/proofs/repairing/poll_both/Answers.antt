use Rattle.std.proofs.Common.{Some, refl, sym, subst}
use Rattle.stream_core.specs.Repairing.{Repairs, RepairsStandFor, Polls, again, same}
use Rattle.stream_core.specs.TxRecord.{TxRecord}
use Rattle.stream_core.proofs.Mending.{polls_first, none_stays}
use Rattle.stream_core.proofs.repairing.poll_both.Goals as goal

pub returns-in-Ok-Some-clause-polled : goal.returns-in-Ok-Some-clause-polled
returns-in-Ok-Some-clause-polled g c = λ r h.
    let k = c.in-Ok-Some.ensures.polled r h in (
      k.0,
      subst (λ (z : TxRecord). Polls c.args.types.now c.args.transport.now c.args.now c.args.stream.now (Some r) z (Some k.0) (Some c.in-Ok-Some.receipt)) (sym c.count_resend.ensures)
          (again c.args.ssrc r k.0 c.in-Ok-Some.receipt c.requires
          (subst (λ o. Repairs c.args.transport.now c.args.now c.args.ssrc c.args.stream.now r k.0 o) c.in-Ok-Some.field-0-is k.1)),
      k.2,
    )

pub returns-in-Err-clause-failed : goal.returns-in-Err-clause-failed
returns-in-Err-clause-failed g c =
    (refl, λ r h. (r, same (Some r), subst (λ v. RepairsStandFor g.S.ResendStore.stands_for v r) (sym c.in-Err.ensures.err) h))

pub returns-in-Ok-clause-polled : goal.returns-in-Ok-clause-polled
returns-in-Ok-clause-polled g c = λ r h.
    let said = c.in-Ok.ensures in
    let k = c.in-Ok-None.ensures.polled r h in
    polls_first g.S.ResendStore.stands_for c.args.types.now c.args.transport.now c.args.now c.args.ssrc c.args.stream.now c.poll_first.new.stream c.poll_repair.new.repairs c.poll_first.new.repairs
    c.requires said.after c.in-Ok.polled said.polled said.kept said.none r
    (k.0, subst (λ o. Repairs c.args.transport.now c.args.now c.args.ssrc c.args.stream.now r k.0 o) c.in-Ok-None.field-0-is k.1, k.2)

pub returns-in-Err-poll_first-clause-failed : goal.returns-in-Err-poll_first-clause-failed
returns-in-Err-poll_first-clause-failed g c =
    let said = c.in-Err-poll_first.ensures.err in (
      said.0,
      λ r h.
          let k = c.in-Ok-None.ensures.polled r h in (
            k.0,
            none_stays c.args.transport.now c.args.now c.args.ssrc c.args.stream.now r k.0
                (subst (λ o. Repairs c.args.transport.now c.args.now c.args.ssrc c.args.stream.now r k.0 o) c.in-Ok-None.field-0-is k.1),
            subst (λ v. RepairsStandFor g.S.ResendStore.stands_for v k.0) (sym said.1) k.2,
          ),
    )
