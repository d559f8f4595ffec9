use Rattle.std.proofs.Common.{arith}
use Rattle.twcc_core.proofs.Keeping.{none_to_forget}
use Rattle.twcc_core.proofs.receive.TwccRecvRegister.forget.Goals as goal

pub returns-in_default : goal.returns-in_default
returns-in_default c = none_to_forget c.args.self.now (omega (arith, c.first_counted.ensures, c.in_default.ensures))
