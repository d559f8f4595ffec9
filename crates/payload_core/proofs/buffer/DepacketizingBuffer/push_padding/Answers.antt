use Rattle.std.proofs.Common.{rules}
use Rattle.payload_core.proofs.Histories.{padding_after}
use Rattle.payload_core.proofs.buffer.DepacketizingBuffer.push_padding.Goals as goal

pub returns-then-is_known-clause-stands : goal.returns-then-is_known-clause-stands
returns-then-is_known-clause-stands g c = λ events s. padding_after c.args.self.now _ events c.args.seq_no (search rules) s

pub returns-clause-stands : goal.returns-clause-stands
returns-clause-stands g c = λ events s. padding_after c.args.self.now _ events c.args.seq_no (search rules) s
