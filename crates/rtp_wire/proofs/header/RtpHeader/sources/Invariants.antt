use Rattle.std.proofs.Common.{◌≡◌, ◌*◌, ◌-◌, ◌++◌, take, drop, replicate}
use Rattle.rtp_wire.specs.Bytes.{words_of}
use Rattle.rtp_wire.proofs.header.RtpHeader.sources.Given as goal

abbrev pub invariant-loop-i : goal.invariant-loop-i
invariant-loop-i l = l.places ≡ words_of (take (4 * l.i) (drop 12 l.bytes)) ++ replicate (15 - l.i) 0
