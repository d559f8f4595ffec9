use Rattle.session_turns.proofs.Openings.{rtcp_openings_are_right}
use Rattle.session_turns.proofs.laws.rtcp_openings_are_right.Goals as goal

pub returns : goal.returns
returns c = rtcp_openings_are_right
