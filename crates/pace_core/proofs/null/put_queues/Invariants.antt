use Rattle.std.proofs.Common.{◌≡◌, ◌++◌, drop}
use Rattle.pace_core.specs.Null.{null_queues, AreNoted}
use Rattle.pace_core.proofs.null.put_queues.Given as goal

abbrev pub invariant-loop-i : goal.invariant-loop-i
invariant-loop-i l = AreNoted l.sends l.noted → l.all.items ++ null_queues l.sends (drop l.i l.queues) ≡ null_queues l.sends l.queues
