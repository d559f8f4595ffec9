use Rattle.payload_core.proofs.OneBuffer.{events_determine}
use Rattle.payload_core.proofs.buffer.events_determine_what_waits.Goals as goal

pub returns : goal.returns
returns g c = events_determine
