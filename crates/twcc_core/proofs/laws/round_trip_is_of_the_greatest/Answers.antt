use Rattle.twcc_core.proofs.RoundTrip.{of_the_greatest}
use Rattle.twcc_core.proofs.laws.round_trip_is_of_the_greatest.Goals as goal

pub returns : goal.returns
returns c = of_the_greatest
