use Rattle.std.proofs.Common.{◌≡◌, ◌+◌, ◌-◌, length, arith}
use Rattle.std.proofs.lemmas.Grind.{common_steps}
use Rattle.std.proofs.lemmas.Slice.{drop-put_mid}
use Rattle.rtp_base.proofs.wire.put.Goals as goal

pub returns-clause-behind : goal.returns-clause-behind
returns-clause-behind c =
    let len : length c.copy_from_slice.new.self ≡ c.args.at + length c.args.bytes.now - c.args.at = grind (arith, common_steps) in
    drop-put_mid c.args.at (c.args.at + length c.args.bytes.now - c.args.at) c.args.out.now c.copy_from_slice.new.self (c.args.at + length c.args.bytes.now) (omega arith) (omega (arith, c.if-out-at.false)) len
