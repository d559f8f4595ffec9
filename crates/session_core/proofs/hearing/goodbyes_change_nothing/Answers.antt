use Rattle.session_core.proofs.Goodbyes.{goodbyes_heard}
use Rattle.session_core.proofs.hearing.goodbyes_change_nothing.Goals as goal

pub returns : goal.returns
returns c = λ now plain ssrcs r repairs are asked. goodbyes_heard now plain ssrcs r repairs are asked
