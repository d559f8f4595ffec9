use Rattle.media_laws.proofs.Cuts.{plays_to_key}
use Rattle.media_laws.proofs.Playing.{plays_steps}
use Rattle.media_laws.proofs.laws.plays_steps.Goals as goal

pub returns-clause-whole : goal.returns-clause-whole
returns-clause-whole g c setup steps entries played = plays_steps played.plays

pub returns-clause-exhausted : goal.returns-clause-exhausted
returns-clause-exhausted g c setup steps past step side counter told played e = plays_to_key steps past step side counter told played e
