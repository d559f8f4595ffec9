use Rattle.session_turns.proofs.Unmapped as Unmapped
use Rattle.session_turns.proofs.laws.maps_nothing.Goals as goal

pub returns : goal.returns
returns c = Unmapped.maps_nothing
