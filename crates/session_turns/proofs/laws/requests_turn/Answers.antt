use Rattle.session_turns.proofs.Requesting.{requests_turn}
use Rattle.session_turns.proofs.laws.requests_turn.Goals as goal

pub returns : goal.returns
returns c = requests_turn
