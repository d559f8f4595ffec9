use Rattle.media_laws.proofs.RxYields.{none_twice}
use Rattle.media_laws.proofs.plain_laws.none_twice.Goals as goal

pub returns : goal.returns
returns c = none_twice
