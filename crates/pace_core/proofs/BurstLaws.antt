-- A burst of a leaky bucket.
use Rattle.std.proofs.Common.{refl, lit≤}
use Rattle.pace_core.specs.LeakyBurst.{IsLetOutByFive, IsRunOfFive}

pub burst_is_let_out : IsLetOutByFive
burst_is_let_out = record {
  debts = refl;
  sixth = refl;
  wake = refl;
  paced = (refl, refl, (refl, refl, (refl, refl, (refl, refl, (refl, refl, tt)))));
  answers = (refl, (refl, (refl, (refl, (refl, tt)))));
  short = (lit≤ tt, (lit≤ tt, (lit≤ tt, (lit≤ tt, (lit≤ tt, tt)))));
}

pub burst_is_run : IsRunOfFive
burst_is_run = record {
  come = refl;
  log = refl;
  prompt = (refl, (refl, (refl, (refl, (refl, tt)))));
  brief = (lit≤ tt, (lit≤ tt, (lit≤ tt, (lit≤ tt, (lit≤ tt, tt)))));
}
