use Rattle.std.proofs.Common.{rules, Some, None}
use Rattle.payload_core.proofs.Histories.{given_after, given_by_rule}
use Rattle.payload_core.proofs.buffer.DepacketizingBuffer.pop.Goals as goal

pub returns-in_default-clause-rule : goal.returns-in_default-clause-rule
returns-in_default-clause-rule g c = λ events s. given_by_rule c.args.self.now events c.args.now c.args.audio_timeout None (search rules) s

pub returns-clause-rule : goal.returns-clause-rule
returns-clause-rule g c = λ events s. given_by_rule c.args.self.now events c.args.now c.args.audio_timeout (Some c.frame.result) (search rules) s

pub returns-clause-stands : goal.returns-clause-stands
returns-clause-stands g c = λ events s. given_after c.args.self.now _ events c.args.now c.args.audio_timeout (search rules) s
