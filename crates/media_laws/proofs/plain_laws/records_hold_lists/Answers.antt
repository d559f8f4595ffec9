use Rattle.media_laws.proofs.RxTracks.{records_hold_lists}
use Rattle.media_laws.proofs.plain_laws.records_hold_lists.Goals as goal

pub returns : goal.returns
returns c = records_hold_lists
