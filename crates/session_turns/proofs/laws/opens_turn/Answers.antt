use Rattle.session_turns.proofs.Turns.{opens_turn}
use Rattle.session_turns.proofs.laws.opens_turn.Goals as goal

pub returns : goal.returns
returns c = opens_turn c.header_reads_own_bytes.ensures c.header_numbers_fit.ensures c.maps_nothing.ensures
