use Rattle.rtp_wire.proofs.Elements.{IsSofar}
use Rattle.rtp_wire.proofs.values.ExtensionValues.put_elements.Given as goal

abbrev pub invariant-loop-id : goal.invariant-loop-id
invariant-loop-id l = IsSofar l.exts l.self l.left l.fn.bytes l.bytes l.id l.at
