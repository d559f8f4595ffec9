use Rattle.twcc_core.specs.Reports.{rows_from}
use Rattle.twcc_core.proofs.Receiving.{IsRowed}
use Rattle.twcc_core.proofs.receive.TwccRecvRegister.rows.Given as goal

abbrev pub invariant-loop-i : goal.invariant-loop-i
invariant-loop-i l = IsRowed l.self.arrivals (rows_from l.self.arrivals l.count l.base l.reference) l.limit l.count l.i l.base l.last l.rows l.size
