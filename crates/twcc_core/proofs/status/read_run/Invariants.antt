use Rattle.twcc_core.proofs.Symbols.{IsRun}
use Rattle.twcc_core.proofs.status.read_run.Given as goal

abbrev pub invariant-loop : goal.invariant-loop
invariant-loop l = IsRun l.initial.rows l.symbol l.count l.counter l.bytes l.rows l.rest
