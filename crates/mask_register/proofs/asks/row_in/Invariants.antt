use Rattle.std.proofs.Common.{◌≡◌, drop}
use Rattle.mask_register.specs.Asks.{row_of}
use Rattle.mask_register.proofs.asks.row_in.Given as goal

abbrev pub invariant-loop-ask : goal.invariant-loop-ask
invariant-loop-ask l = row_of (drop l.ask-index l.rows) l.number ≡ row_of l.rows l.number
