use Rattle.rtp_wire.proofs.HeadersAgain.{written_is_read_again}
use Rattle.rtp_wire.proofs.laws.written_header_is_read_again.Goals as goal

pub returns : goal.returns
returns c = written_is_read_again
