use Rattle.std.proofs.Common.{◌≡◌, Err, sym, ap, ◌∙◌}
use Rattle.rtx_core.specs.declared.resend.ResendError.TheVariants.{Exhausted}
use Rattle.rtx_core.specs.Resends.{ResendState}
use Rattle.stream_core.proofs.Mending.{none_again, some_again, used_up}
use Rattle.stream_core.proofs.repairing.poll_repair.Goals as goal

pub returns-in_default-clause-polled : goal.returns-in_default-clause-polled
returns-in_default-clause-polled g c =
    none_again g.S.ResendStore.stands_for c.args.transport.now c.args.now c.args.ssrc c.args.stream.now c.args.repairs.now c.give_up.new.self _
    c.in_default.ensures.packet c.give_up.ensures c.in_default.ensures.due

pub returns-in-Ok-Some-clause-polled : goal.returns-in-Ok-Some-clause-polled
returns-in-Ok-Some-clause-polled g c =
    let said = c.in-Ok-Some.ensures in
    some_again g.S.ResendStore.stands_for c.args.transport.now c.args.now c.args.ssrc c.args.stream.now c.args.repairs.now c.pop.new.self _
    c.in-Some.sent.now _ c.next_seq_no-seq_no.result c.in_ok-receipt.receipt c.in-Some.ensures.packet said.number said.small c.next_seq_no-seq_no.ensures.number
    c.in_ok-receipt.ensures.repair said.state said.cache c.in-Some.ensures.due

pub returns-in-Err-clause-exhausted : goal.returns-in-Err-clause-exhausted
returns-in-Err-clause-exhausted g c = λ key r h.
    let same : c.in-Err.error ≡ Exhausted = cc in
    let last = c.in-Err.ensures.exhausted.0 (ap Err same) in
    used_up c.args.now _ r last.0 (c.in-Some.ensures.due r h) (sym (ap (λ (s : ResendState). s.next_seq_no) h.state) ∙ last.1)
