use Rattle.std.proofs.Common.{◌≡◌, ◌++◌, take}
use Rattle.std.specs.List.{flat_map}
use Rattle.setup_rules.specs.SetupRules.{both_of}
use Rattle.setup_rules.proofs.rules.add_ssrcs.Given as goal

abbrev pub invariant-loop-stream : goal.invariant-loop-stream
invariant-loop-stream l = l.ssrcs.items ≡ l.fn.ssrcs.items ++ flat_map both_of (take l.stream-index l.streams)
