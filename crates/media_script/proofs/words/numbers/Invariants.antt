use Rattle.std.proofs.Common.{◌≡◌, ◌++◌, length}
use Rattle.rtp_wire.specs.Bytes.{words_of as numbers_in}
use Rattle.media_script.proofs.words.numbers.Given as goal

abbrev pub invariant-loop-rest : goal.invariant-loop-rest
invariant-loop-rest l = l.numbers.items ++ numbers_in l.rest ≡ numbers_in l.bytes

abbrev pub decreases-loop-rest : goal.decreases-loop-rest
decreases-loop-rest l = length l.rest
