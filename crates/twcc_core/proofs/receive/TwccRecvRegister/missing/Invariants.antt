use Rattle.std.proofs.Common.{◌≡◌, ◌≤◌}
use Rattle.twcc_core.specs.Reports.{missing_from}
use Rattle.twcc_core.proofs.receive.TwccRecvRegister.missing.Given as goal

abbrev pub invariant-loop-i : goal.invariant-loop-i
invariant-loop-i l = (l.missing ≡ missing_from l.self.arrivals l.number l.i) × (l.missing ≤ l.i)
