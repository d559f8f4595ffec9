use Rattle.std.proofs.Common.{◌≡◌, [], Some, sym, ap, ◌∙◌}
use Rattle.stream_core.specs.declared.stream_tx.PacketReceipt.{PacketReceipt}
use Rattle.stream_core.specs.StreamsRecord.{StreamsRecord, StandsFor}
use Rattle.stream_core.specs.Tables.{place_of, value_under}
use Rattle.stream_core.specs.TxRecord.{TxRecord}
use Rattle.uses.specs.SendingAgain.{unknown, asked_then_polled}
use Rattle.uses.proofs.Repairing.{gives_repair, stands_at, if_some}
use Rattle.uses.proofs.send_again.send_again.Goals as goal

-- without a stream of the SSRC nothing changes
pub returns-in_default-clause-polled : goal.returns-in_default-clause-polled
returns-in_default-clause-polled g c = λ r h.
    (r, unknown (ap (place_of c.args.ssrc) (sym h.tx) ∙ sym c.tx_place.ensures.place ∙ c.in_default.is), h)

-- it is asked, and then polled
pub returns-clause-polled : goal.returns-clause-polled
returns-clause-polled g c = λ r h.
    let asked = c.in_ok-handle_nack.ensures.ok r h in
    let polled = c.in_ok-receipt.ensures.polled (record r { repairs = asked.0 }) asked.2 in (
      polled.0,
      asked_then_polled c.in-Some.place asked.0 polled.0 c.in_ok-receipt.receipt
          (ap (place_of c.args.ssrc) (sym h.tx) ∙ sym c.tx_place.ensures.place ∙ c.in-Some.is) asked.1 polled.1,
      polled.2,
    )

-- where no packet waits, what is given is a repair
pub returns-clause-repair : goal.returns-clause-repair
returns-clause-repair g c =
    if_some
    (λ (p : PacketReceipt). (r : StreamsRecord) (x : TxRecord) → StandsFor g.W.GapWindow.remembers g.S.ResendStore.stands_for c.args.streams.now r → value_under c.args.ssrc r.tx ≡ Some x
    → x.queue ≡ [] → x.rtx ≡ Some p.header.ssrc)
    c.in_ok-receipt.receipt
    (λ p same r x h under empty.
    let asked = c.in_ok-handle_nack.ensures.ok r h in
    let between : StreamsRecord = record r { repairs = asked.0 } in
    let polled = c.in_ok-receipt.ensures.polled between asked.2 in
    gives_repair c.args.transport.now c.args.now c.args.types.now c.in-Some.place between polled.0 c.in_ok-receipt.receipt p x
    (stands_at c.args.ssrc c.in-Some.place r.tx x (ap (place_of c.args.ssrc) (sym h.tx) ∙ sym c.tx_place.ensures.place ∙ c.in-Some.is) under) empty same polled.1)
