use Rattle.session_turns.proofs.Calls.{calls_are_right}
use Rattle.session_turns.proofs.laws.calls_are_right.Goals as goal

pub returns : goal.returns
returns c = calls_are_right
