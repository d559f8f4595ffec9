use Rattle.std.proofs.Common.{◌∙◌}
use Rattle.twcc_core.proofs.Runs.{empty_is}
use Rattle.twcc_core.proofs.status_list.StatusIter.is_empty.Goals as goal

pub returns-then-self-eq0 : goal.returns-then-self-eq0
returns-then-self-eq0 c = c.is_empty.ensures ∙ empty_is c.args.self.now.gap c.args.self.now.runs.now c.if-self-eq0.true
