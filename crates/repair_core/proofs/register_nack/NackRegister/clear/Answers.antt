use Rattle.std.proofs.Common.{false, refl, sym, subst}
use Rattle.repair_core.specs.declared.register_nack.NackRegister.{NackRegister}
use Rattle.repair_core.specs.Rounds.{started_at}
use Rattle.repair_core.specs.NackRegister.{Remembers}
use Rattle.repair_core.proofs.RoundLaws.{began}
use Rattle.repair_core.proofs.register_nack.NackRegister.clear.Goals as goal

pub returns-clause-remembers : goal.returns-clause-remembers
returns-clause-remembers c =
    subst (λ (s : NackRegister). Remembers s (started_at c.args.max_seq_no)) (sym c.start.ensures)
    (began (record { started = false; first = 0; greatest = 0; slots = c.clear.new.self }) c.args.max_seq_no refl c.clear.ensures)
