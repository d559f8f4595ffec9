-- What a register of a source stands for.
use Rattle.std.specs.Prelude.{◌≡◌}
use Rattle.repair_core.specs.declared.register.ReceiverRegister.{ReceiverRegister}
use Rattle.repair_core.specs.Rounds.{Heard}
use Rattle.repair_core.specs.Reception.{Reception, heard, counts_in}

-- the register was told this
pub record StandsFor {W : Type 0} (remembers : W → Heard → Type 0) (r : ReceiverRegister W) (past : Reception) : Type 0 where
  pub numbers : remembers r.nack (heard past)
  pub counts : r.counts ≡ counts_in past
