use Rattle.std.proofs.Common.{ℕ, ◌++◌, ◌∙◌, List, None, ap, sym, subst}
use Rattle.repair_core.specs.declared.register_nack.NackRegister.{NackRegister}
use Rattle.repair_core.specs.Rounds.{round, wait_of}
use Rattle.repair_core.specs.Entries.{packed}
use Rattle.repair_core.specs.NackRegister.{Remembers, with_round, round_due}
use Rattle.repair_core.proofs.RoundLaws.{round_is}
use Rattle.repair_core.proofs.register_nack.NackRegister.nack_reports.Goals as goal

pub returns : goal.returns
returns c = record {
  asked = λ past m.
      subst (λ (s : NackRegister). Remembers s (round past c.args.now (wait_of c.args.trip)))
      (sym (c.settle.ensures ∙ c.round.ensures.asked ∙ ap (λ (w : ℕ). with_round c.args.self.now c.args.now w) c.wait.ensures))
      (round_is c.args.self.now past c.args.now (wait_of c.args.trip) m).0;
  entries = λ past m.
      c.round.ensures.entries
      ∙ ap (λ (w : ℕ). c.args.reports.now ++ packed None (round_due c.args.self.now c.args.now w)) c.wait.ensures
      ∙ ap (λ (ks : List ℕ). c.args.reports.now ++ packed None ks) (round_is c.args.self.now past c.args.now (wait_of c.args.trip) m).1;
  few = c.round.ensures.few;
}
