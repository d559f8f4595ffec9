use Rattle.std.proofs.Common.{rules}
use Rattle.media_model.proofs.GenuineLaws.{genuine_means_of}
use Rattle.media_model.proofs.transcript.Transcript.genuine.Goals as goal

pub returns-clause-meaning : goal.returns-clause-meaning
returns-clause-meaning c = genuine_means_of c.args.self.now c.is_genuine.result (search rules)
