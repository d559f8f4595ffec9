use Rattle.rtp_wire.proofs.HeadersAgain.{plain_is_read_again}
use Rattle.rtp_wire.proofs.laws.plain_header_is_read_again.Goals as goal

pub returns : goal.returns
returns c = plain_is_read_again
