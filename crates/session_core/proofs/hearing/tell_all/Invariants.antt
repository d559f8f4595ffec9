use Rattle.std.proofs.Common.{◌≡◌, take}
use Rattle.session_core.specs.Hearing.{tx_heard}
use Rattle.session_core.proofs.hearing.tell_all.Given as goal

abbrev pub invariant-loop-item : goal.invariant-loop-item
invariant-loop-item g l = l.streams ≡ record l.fn.streams { tx = tx_heard (take l.item-index l.fn.feedback) l.fn.streams.tx }
