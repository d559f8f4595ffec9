use Rattle.session_core.proofs.Targets.{keeps_to_target}
use Rattle.session_core.proofs.feedback.compounds_keep_to_target.Goals as goal

pub returns : goal.returns
returns g c = λ target items state least some fit. keeps_to_target g.C.SrtpCipher.meaning c.rtcp_seal_keeps_header.ensures target items state least some fit
