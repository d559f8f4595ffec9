use Rattle.std.proofs.Common.{◌∙◌}
use Rattle.twcc_core.proofs.Within.{told_within}
use Rattle.twcc_core.proofs.send.TwccSendRegister.told.Goals as goal

pub returns : goal.returns
returns c = c.in_ok-told.ensures ∙ told_within c.args.first c.args.moments.now c.args.now c.args.self.now.records c.args.places.0 c.args.places.1 c.requires
