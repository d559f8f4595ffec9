use Rattle.rtcp_wire.proofs.Lengths.{counted}
use Rattle.rtcp_wire.proofs.laws.items_fit_by_lengths.Goals as goal

pub returns : goal.returns
returns c = counted c.feedback_is_whole.ensures
