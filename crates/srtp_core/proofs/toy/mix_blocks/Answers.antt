use Rattle.std.proofs.Common.{◌+◌, ◌*◌, ◌≤◌, ◌∙◌, length, sym, arith}
use Rattle.std.specs.Prelude.{bit_xor}
use Rattle.std.specs.Simd.Lanes.{chunk}
use Rattle.std.proofs.lemmas.Simd.{length-zip2, length-chunk}
use Rattle.srtp_core.proofs.Columns.{block_mixed}
use Rattle.srtp_core.proofs.toy.mix_blocks.Goals as goal

pub loop-n-preserved : goal.loop-n-preserved
loop-n-preserved c =
    let n = c.loop-n.n in
    let xs = c.args.blocks.now in
    let room : 16 * n + 16 ≤ length xs = omega arith in
    record {
      long = length-zip2 bit_xor c.loop-n.lanes (chunk (16 * n) 16 xs) (c.loop-n.invariant.long ∙ sym (length-chunk (16 * n) 16 xs room)) ∙ c.loop-n.invariant.long;
      columns = λ j h. block_mixed j n c.loop-n.lanes xs h c.loop-n.invariant.long room ∙ c.loop-n.invariant.columns j h;
    }
