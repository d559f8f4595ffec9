use Rattle.media_laws.specs.Keys.{sealing_of}
use Rattle.media_play.proofs.WholeSlices.{played_whole, ended_whole}
use Rattle.media_play.proofs.slices.runs_of_slices.Goals as goal

pub returns-clause-played : goal.returns-clause-played
returns-clause-played g c setup old new entries p = played_whole (sealing_of g.C.SrtpCipher.meaning setup) setup old new entries p

pub returns-clause-cause : goal.returns-clause-cause
returns-clause-cause g c setup old new entries cause e = ended_whole g.C.SrtpCipher.meaning setup old new entries cause e
