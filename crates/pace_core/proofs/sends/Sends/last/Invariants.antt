use Rattle.std.proofs.Common.{◌≡◌, drop}
use Rattle.pace_core.specs.Sends.{last_of}
use Rattle.pace_core.proofs.sends.Sends.last.Given as goal

abbrev pub invariant-loop-entry : goal.invariant-loop-entry
invariant-loop-entry l = last_of (drop l.entry-index l.entry-items) l.key ≡ last_of l.self l.key
