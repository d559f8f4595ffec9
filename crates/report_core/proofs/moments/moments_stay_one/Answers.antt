use Rattle.report_core.proofs.OneOfEach.{moments_stay_one as stay_one}
use Rattle.report_core.proofs.moments.moments_stay_one.Goals as goal

pub returns : goal.returns
returns c = stay_one
