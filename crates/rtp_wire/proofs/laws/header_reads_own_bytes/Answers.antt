use Rattle.rtp_wire.proofs.OwnBytes.{reads_own_bytes}
use Rattle.rtp_wire.proofs.laws.header_reads_own_bytes.Goals as goal

pub returns : goal.returns
returns c = reads_own_bytes
