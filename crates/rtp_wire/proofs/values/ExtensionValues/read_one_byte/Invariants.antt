use Rattle.std.proofs.Common.{◌≡◌, ◌-◌, ◌≤◌, length, drop}
use Rattle.rtp_wire.specs.Extensions.{with_elements, one_byte_elements}
use Rattle.rtp_wire.proofs.values.ExtensionValues.read_one_byte.Given as goal

abbrev pub invariant-loop-at : goal.invariant-loop-at
invariant-loop-at l = record {
  within : l.at ≤ length l.bytes;
  sofar : with_elements l.exts l.self (one_byte_elements 0 (drop l.at l.bytes)) ≡ with_elements l.exts l.fn.self (one_byte_elements 0 l.bytes);
}

abbrev pub decreases-loop-at : goal.decreases-loop-at
decreases-loop-at l = length l.bytes - l.at
