use Rattle.std.proofs.Common.{◌≡◌, take, true}
use Rattle.std.specs.Prelude.{Some}
use Rattle.pace_core.specs.Past.{made}
use Rattle.pace_core.specs.Run.{past_of, entries, may_all_come}
use Rattle.pace_core.specs.Player.{Plays}
use Rattle.pace_core.proofs.run.pace_run.Given as goal

abbrev pub invariant-loop-i : goal.invariant-loop-i
invariant-loop-i l = record {
  plays : Plays l.player (past_of (made (Some l.fn.rate)) (take l.i l.calls));
  log_is : l.log ≡ entries (made (Some l.fn.rate)) (take l.i l.calls);
  came : may_all_come (made (Some l.fn.rate)) (take l.i l.calls) ≡ true;
}
