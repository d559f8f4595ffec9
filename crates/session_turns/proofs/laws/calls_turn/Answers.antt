use Rattle.session_turns.proofs.Calling.{calls_turn}
use Rattle.session_turns.proofs.laws.calls_turn.Goals as goal

pub returns : goal.returns
returns c = calls_turn c.frames_read_back.ensures
