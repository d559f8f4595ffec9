use Rattle.std.proofs.Common.{◌≡◌, ◌+◌, ◌*◌, ◌/◌, ◌%◌, ◌⊎◌, length, arith}
use Rattle.std.specs.Prelude.{slice_index}
use Rattle.srtp_core.specs.Toy.{column}
use Rattle.srtp_core.proofs.Columns.{column-parts, three_parts}
use Rattle.srtp_core.proofs.toy.mix_long.Goals as goal

pub returns-clause-columns : goal.returns-clause-columns
returns-clause-columns c j h =
    let at = c.args.at in
    let first = c.split_at.result.0.now in
    let rest = c.split_at.result.1.now in
    let blocks = c.split_at-2.result.0.now in
    let last = c.split_at-2.result.1.now in
    let place : (c.min.result ≡ length c.args.bytes.now) ⊎ ((at + c.min.result) % 16 ≡ 0) = grind arith in
    three_parts (slice_index c.args.tag.now j) (column j at first) (column j 0 blocks) (column j 0 last) (column j at c.args.bytes.now) (slice_index c.mix_bytes.new.tag j) (slice_index c.mix_blocks.new.tag j) (slice_index c.mix_bytes-2.new.tag j)
    (c.mix_bytes.ensures.columns j h) (c.mix_blocks.ensures.columns j h) (c.mix_bytes-2.ensures.columns j h)
    (column-parts j at c.min.result (length rest / 16 * 16) c.args.bytes.now first rest blocks last c.split_at.ensures.front c.split_at.ensures.back c.split_at-2.ensures.front c.split_at-2.ensures.back place (omega arith) (omega arith) (omega arith))
