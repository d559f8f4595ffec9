use Rattle.media_laws.proofs.Whole.{runs_repeat_no_nonce}
use Rattle.media_laws.proofs.plain_laws.runs_repeat_no_nonce.Goals as goal

pub returns : goal.returns
returns c = runs_repeat_no_nonce
