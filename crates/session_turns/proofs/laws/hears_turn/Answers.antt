use Rattle.session_turns.proofs.Hearing.{hears_turn}
use Rattle.session_turns.proofs.laws.hears_turn.Goals as goal

pub returns : goal.returns
returns c = hears_turn
