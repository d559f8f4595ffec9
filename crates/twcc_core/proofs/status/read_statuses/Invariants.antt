use Rattle.twcc_core.proofs.Symbols.{IsRead}
use Rattle.twcc_core.proofs.status.read_statuses.Given as goal

abbrev pub invariant-loop-symbol : goal.invariant-loop-symbol
invariant-loop-symbol l = IsRead l.initial.rows l.symbols l.symbol-index l.bytes l.rows l.rest
