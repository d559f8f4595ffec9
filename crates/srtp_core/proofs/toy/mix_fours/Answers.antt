use Rattle.std.proofs.Common.{◌+◌, ◌*◌, ◌≤◌, ◌∙◌, drop, length, ap, arith}
use Rattle.std.specs.Prelude.{slice_index, bit_xor}
use Rattle.std.proofs.lemmas.Simd.{length-put_chunk}
use Rattle.srtp_core.specs.Toy.{column}
use Rattle.srtp_core.proofs.Columns.{four_mixed}
use Rattle.srtp_core.proofs.toy.mix_fours.Goals as goal

pub loop-n-preserved : goal.loop-n-preserved
loop-n-preserved c =
    let n = c.loop-n.n in
    let xs = c.args.bytes.now in
    let room : 4 * n + 4 ≤ length xs = omega arith in
    record {
      long = ap length c.mix_four.ensures ∙ length-put_chunk (c.args.at + 4 * n) c.loop-n.tag _ ∙ c.loop-n.invariant.long;
      columns = λ j h. ap (λ l. bit_xor (slice_index l j) (column j (c.args.at + 4 * (n + 1)) (drop (4 * (n + 1)) xs))) c.mix_four.ensures ∙ four_mixed j c.args.at n c.loop-n.tag xs h c.loop-n.invariant.long room (omega arith) ∙ c.loop-n.invariant.columns j h;
    }
