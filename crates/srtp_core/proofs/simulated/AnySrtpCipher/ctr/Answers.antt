use Rattle.std.proofs.Common.{◌+◌, ◌%◌, ◌^◌, ◌∙◌, ap}
use Rattle.std.specs.Int.{w128, to_be_bytes}
use Rattle.srtp_core.specs.Streams.{streamed, blocks_at}
use Rattle.srtp_core.proofs.simulated.AnySrtpCipher.ctr.Goals as goal

pub returns : goal.returns
returns g c =
    c.xor_stream.ensures
    ∙ ap (λ first. streamed (blocks_at (λ n. g.S.BlockCipher.block_of c.args.key.now.bytes (to_be_bytes w128 ((first + n) % 2 ^ 128)))) c.args.input.now) c.from_be_bytes.ensures
