use Rattle.session_turns.proofs.Writing.{writes_turn}
use Rattle.session_turns.proofs.laws.writes_turn.Goals as goal

pub returns : goal.returns
returns c = writes_turn
