use Rattle.std.proofs.Common.{arith}
use Rattle.mask_register.proofs.MaskLaws.{run_has}
use Rattle.mask_register.proofs.mask.Mask.run.Goals as goal

pub returns : goal.returns
returns c = λ i h. run_has c.args.self.now i (omega arith) (omega arith)
