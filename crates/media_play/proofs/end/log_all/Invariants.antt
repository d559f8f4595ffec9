use Rattle.std.proofs.Common.{◌≡◌, ◌++◌}
use Rattle.media_play.specs.Packets.{seals_from}
use Rattle.media_play.proofs.end.log_all.Given as goal

abbrev pub invariant-loop-datagram : goal.invariant-loop-datagram
invariant-loop-datagram l = l.log ≡ l.fn.log ++ seals_from l.side l.yielded
