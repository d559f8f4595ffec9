use Rattle.std.proofs.Common.{refl, ap, ◌∙◌}
use Rattle.rtp_wire.specs.declared.header.RtpHeader.{RtpHeader}
use Rattle.stream_core.specs.Queue.{next_of}
use Rattle.stream_core.proofs.Polling.{read_again, receipt_is, sealable}
use Rattle.stream_core.proofs.stream_tx.StreamTx.next_receipt.Goals as goal

pub returns-clause-polled : goal.returns-clause-polled
returns-clause-polled c =
    let said = c.in_ok-receipt.ensures in
    receipt_is c.args.self.now c.args.transport.now c.args.now c.in-Some.packet.now c.put_sealed_values.new.values c.in_ok-receipt.receipt
    c.put_sealed_values.ensures said.header said.number said.plain (c.in-Some.ensures.next ∙ ap (λ s. next_of s.queue) c.self.view_is)

pub returns-clause-small : goal.returns-clause-small
returns-clause-small c =
    let said = c.in_ok-receipt.ensures in
    let header : RtpHeader = record c.in-Some.packet.now.header { ext_vals = c.put_sealed_values.new.values } in
    sealable c.args.transport.now.exts header c.in-Some.packet.now c.in_ok-receipt.receipt c.in-Some.ensures.sendable refl said.header said.number said.plain said.few

pub returns-clause-reads : goal.returns-clause-reads
returns-clause-reads c =
    let said = c.in_ok-receipt.ensures in
    let header : RtpHeader = record c.in-Some.packet.now.header { ext_vals = c.put_sealed_values.new.values } in
    read_again c.args.transport.now.exts header c.in_ok-receipt.receipt.header said.header said.reads
