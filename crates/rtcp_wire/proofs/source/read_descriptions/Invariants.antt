use Rattle.std.proofs.Common.{◌-◌}
use Rattle.rtcp_wire.specs.Descriptions.{chunks_of}
use Rattle.rtcp_wire.proofs.Chunks.{IsRead}
use Rattle.rtcp_wire.proofs.source.read_descriptions.Given as goal

abbrev pub invariant-loop : goal.invariant-loop
invariant-loop l = IsRead l.reports (l.count - l.counter) l.rest (chunks_of l.count l.body)
