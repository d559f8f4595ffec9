use Rattle.std.proofs.Common.{◌≡◌, ◌+◌, ◌%◌, ◌^◌, ◌∙◌, ap, arith}
use Rattle.std.specs.Prelude.{bit_xor}
use Rattle.std.specs.Int.{w128, to_be_bytes}
use Rattle.std.specs.Simd.Lanes.{zip2}
use Rattle.srtp_core.proofs.toy.stream_block.Goals as goal

pub returns : goal.returns
returns c =
    let place : (c.args.n % 4294967296 + 2) % 4294967296 ≡ (c.args.n + 2) % 2 ^ 32 = omega arith in
    ap (zip2 bit_xor c.args.first.now) (c.wide_word.ensures ∙ ap (to_be_bytes w128) place)
