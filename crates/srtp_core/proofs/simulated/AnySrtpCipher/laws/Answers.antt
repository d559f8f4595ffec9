use Rattle.srtp_core.proofs.SimulatedLaws.{length-sealed_text, sealed_text_apart}
use Rattle.srtp_core.proofs.simulated.AnySrtpCipher.laws.Goals as goal

pub returns-clause-longer : goal.returns-clause-longer
returns-clause-longer g c = length-sealed_text g.S.BlockCipher.block_of g.S.Simulated.tag_of g.met.S.Simulated.tag_len

pub returns-clause-apart : goal.returns-clause-apart
returns-clause-apart g c = sealed_text_apart g.S.BlockCipher.block_of g.S.Simulated.tag_of g.met.S.Simulated.tag_len
