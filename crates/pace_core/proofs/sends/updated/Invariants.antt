use Rattle.std.proofs.Common.{◌≡◌, ◌++◌, take, drop}
use Rattle.pace_core.specs.Sends.{with_send, last_of}
use Rattle.pace_core.proofs.sends.updated.Given as goal

abbrev pub invariant-loop-i : goal.invariant-loop-i
invariant-loop-i l = record {
  same : l.all ≡ l.fn.all;
  before : with_send l.all l.key l.now ≡ take l.i l.all ++ with_send (drop l.i l.all) l.key l.now;
  last : last_of l.all l.key ≡ last_of (drop l.i l.all) l.key;
}
