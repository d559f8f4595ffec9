use Rattle.std.proofs.Common.{◌%◌, ◌++◌, ap, ◌∙◌}
use Rattle.std.specs.Int.{w16, to_be_bytes}
use Rattle.rtp_wire.specs.Header.{header_bytes}
use Rattle.stream_core.specs.Repairing.{SentPacket}
use Rattle.stream_core.proofs.Mending.{repair_is}
use Rattle.stream_core.proofs.Polling.{read_again}
use Rattle.stream_core.proofs.repairing.Sent.repair.Goals as goal

pub returns-clause-repair : goal.returns-clause-repair
returns-clause-repair c =
    let said = c.in_ok-receipt.ensures in
    let exts = c.args.transport.now.exts in
    let h = c.repair_header-header.result in
    repair_is c.args.ssrc c.args.stream.now c.args.transport.now c.args.now c.args.seq_no c.args.self.now h c.to_be_bytes-number.result c.in_ok-receipt.receipt
    c.repair_header-header.ensures.header said.header said.number
    (c.to_be_bytes-number.ensures ∙ ap (λ n. to_be_bytes w16 (n % 65536)) c.from.ensures ∙ ap (λ (s : SentPacket). to_be_bytes w16 (s.packet.seq_no % 65536)) c.self.view_is)
    (said.plain ∙ ap (λ (s : SentPacket). header_bytes exts h ++ (c.to_be_bytes-number.result ++ s.packet.payload)) c.self.view_is)

pub returns-clause-reads : goal.returns-clause-reads
returns-clause-reads c =
    let said = c.in_ok-receipt.ensures in
    read_again c.args.transport.now.exts c.repair_header-header.result c.in_ok-receipt.receipt.header said.header said.reads
