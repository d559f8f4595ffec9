use Rattle.std.proofs.Common.{◌∙◌, ℕ, sym, subst, Some, ◌∷◌, []}
use Rattle.repair_core.specs.Rounds.{came}
use Rattle.mask_register.specs.declared.window.Window.{Window}
use Rattle.mask_register.specs.Window.{Holds, Takes}
use Rattle.mask_register.specs.MaskRegister.{Remembers}
use Rattle.mask_register.proofs.RegisterLaws.{came_more, came_first}
use Rattle.mask_register.proofs.register.MaskRegisterGapWindow.update.Goals as goal
use Rattle.mask_register.proofs.register.MaskRegisterGapWindow.update.Goals.{in-Some+else-not-accepts, in-None}

pub returns-clause-remembers : goal.returns-clause-remembers
returns-clause-remembers c = λ past m.
    elim c.match-self.branch [
      | in-Some+else-not-accepts w ↦
          subst (λ (n : ℕ). Remembers (record { window = Some c.match-self.window; asks = c.args.self.now.asks }) (came past n)) c.from-number.ensures
          (came_more c.args.self.now past w.in-Some.window c.match-self.window c.from-number.result w.in-Some.is m (sym w.accepts.ensures ∙ w.if-not-accepts.false) (subst (λ (x : Window). Takes w.in-Some.window x c.from-number.result) (sym w.window-is) w.with-window.ensures))
      | in-None w ↦
          subst (λ (n : ℕ). Remembers (record { window = Some c.match-self.window; asks = c.args.self.now.asks }) (came past n)) c.from-number.ensures
          (came_first c.args.self.now past c.match-self.window c.from-number.result w.in-None.is m (subst (λ (x : Window). Holds x c.from-number.result (c.from-number.result ∷ [])) (sym w.window-is) w.begun-window.ensures))
    ]
