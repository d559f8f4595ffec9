use Rattle.std.proofs.Common.{◌≡◌, ◌+◌, ◌-◌, length, arith}
use Rattle.std.proofs.lemmas.Grind.{common_steps}
use Rattle.std.proofs.lemmas.Slice.{drop-put_mid}
use Rattle.rtcp_wire.proofs.packet.Rtcp.write.Goals as goal

pub returns-clause-behind : goal.returns-clause-behind
returns-clause-behind c =
    let len : length c.fill.new.room ≡ c.args.at + (4 + c.body_len-len.result) - c.args.at = grind (arith, common_steps) in
    drop-put_mid c.args.at (c.args.at + (4 + c.body_len-len.result) - c.args.at) c.args.out.now c.fill.new.room (c.args.at + (4 + c.body_len-len.result)) (omega arith) (omega (arith, c.if-out-at.false)) len
