use Rattle.std.proofs.Common.{arith}
use Rattle.srtp_core.proofs.Columns.{one_half, both_halves}
use Rattle.srtp_core.proofs.toy.ToyCipherBlockCipher.block.Goals as goal

pub returns-then-key-gt-SRTP_BLOCK_SIZE : goal.returns-then-key-gt-SRTP_BLOCK_SIZE
returns-then-key-gt-SRTP_BLOCK_SIZE c = both_halves c.args.key.now c.args.input.now (omega arith) (omega arith)

pub returns-else-key-gt-SRTP_BLOCK_SIZE : goal.returns-else-key-gt-SRTP_BLOCK_SIZE
returns-else-key-gt-SRTP_BLOCK_SIZE c = one_half c.args.key.now c.args.input.now (omega arith) (omega arith)
