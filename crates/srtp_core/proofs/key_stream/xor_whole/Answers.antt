use Rattle.std.proofs.Common.{◌≡◌, ◌≤◌, ◌+◌, ◌∙◌, length, ap, arith}
use Rattle.std.specs.Prelude.{bit_xor, slice_index}
use Rattle.std.specs.Simd.Lanes.{zip2, chunk}
use Rattle.std.proofs.lemmas.Simd.{length-zip2, length-chunk, get_or-zip2, get_or-chunk, get_or-put_chunk_below, get_or-put_chunk_at}
use Rattle.srtp_core.proofs.key_stream.xor_whole.Goals as goal

pub returns-clause-before : goal.returns-clause-before
returns-clause-before c k h =
    get_or-put_chunk_below c.args.at c.args.output.now (zip2 bit_xor (chunk c.args.at 16 c.args.input.now) c.args.block.now) k 0 h

pub returns-clause-here : goal.returns-clause-here
returns-clause-here c k h =
    let part = chunk c.args.at 16 c.args.input.now in
    let block = c.args.block.now in
    let room : c.args.at + 16 ≤ length c.args.input.now = omega arith in
    let long : length part ≡ 16 = length-chunk c.args.at 16 c.args.input.now room in
    let lanes : length (zip2 bit_xor part block) ≡ 16 = length-zip2 bit_xor part block (omega arith) ∙ long in
    get_or-put_chunk_at c.args.at c.args.output.now (zip2 bit_xor part block) k 0 (omega arith) (omega arith)
    ∙ get_or-zip2 bit_xor part block k 0 0 0 (omega arith) (omega arith)
    ∙ ap (λ b. bit_xor b (slice_index block k)) (get_or-chunk c.args.at 16 c.args.input.now k 0 h)
