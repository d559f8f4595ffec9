use Rattle.media_laws.proofs.Nonces.{no_nonce_twice}
use Rattle.media_laws.proofs.plain_laws.no_nonce_twice.Goals as goal

pub returns : goal.returns
returns c = no_nonce_twice
