use Rattle.session_turns.proofs.Openings.{openings_are_right}
use Rattle.session_turns.proofs.laws.openings_are_right.Goals as goal

pub returns : goal.returns
returns c = openings_are_right c.header_reads_own_bytes.ensures c.header_numbers_fit.ensures c.maps_nothing.ensures
