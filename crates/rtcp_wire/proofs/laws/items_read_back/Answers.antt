use Rattle.rtcp_wire.proofs.ReadBack.{items_again}
use Rattle.rtcp_wire.proofs.laws.items_read_back.Goals as goal

pub returns : goal.returns
returns c = items_again c.feedback_reads_back.ensures
