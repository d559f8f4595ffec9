use Rattle.media_laws.proofs.TxPlays.{streams_send_writes}
use Rattle.media_laws.proofs.plain_laws.streams_send_writes.Goals as goal

pub returns : goal.returns
returns c = streams_send_writes
