use Rattle.std.proofs.Common.{◌≡◌, take, filter}
use Rattle.twcc_core.specs.Sending.{came, greatest_sent}
use Rattle.twcc_core.proofs.send.trip.Given as goal

abbrev pub invariant-loop-record : goal.invariant-loop-record
invariant-loop-record l = l.best ≡ greatest_sent (filter came (take l.record-index l.records))
