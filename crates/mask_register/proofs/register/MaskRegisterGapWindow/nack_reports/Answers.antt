use Rattle.std.proofs.Common.{ℕ, List, None, ◌++◌, ◌∙◌, ap, sym, append-nil}
use Rattle.repair_core.specs.Rounds.{wait_of}
use Rattle.repair_core.specs.Entries.{packed}
use Rattle.mask_register.specs.MaskRegister.{due_of, rows_after, window_of}
use Rattle.mask_register.proofs.RegisterLaws.{sees_past, round_kept, whole_when}
use Rattle.mask_register.proofs.AskLaws.{due_is, whole_due}
use Rattle.mask_register.proofs.register.MaskRegisterGapWindow.nack_reports.Goals as goal

pub returns-then-not-is_whole-clause-asked : goal.returns-then-not-is_whole-clause-asked
returns-then-not-is_whole-clause-asked c = λ past m.
    round_kept c.args.self.now c.round.new.self past c.in-Some.window c.args.now (wait_of c.args.trip) c.in-Some.is m c.round.ensures.window
    (c.round.ensures.asks ∙ ap (λ (t : ℕ). rows_after c.in-Some.window c.args.self.now.asks c.args.now t (window_of c.in-Some.window)) c.wait.ensures)

pub returns-then-not-is_whole-clause-entries : goal.returns-then-not-is_whole-clause-entries
returns-then-not-is_whole-clause-entries c = λ past m.
    c.round.ensures.entries
    ∙ ap (λ (t : ℕ). c.args.reports.now ++ packed None (due_of c.in-Some.window c.args.self.now.asks c.args.now t (window_of c.in-Some.window))) c.wait.ensures
    ∙ ap (λ (l : List ℕ). c.args.reports.now ++ packed None l) (due_is c.in-Some.window c.args.self.now.asks past c.args.now (wait_of c.args.trip) (sees_past c.args.self.now past c.in-Some.window c.in-Some.is m) m.asks)

pub returns-else-not-is_whole-clause-entries : goal.returns-else-not-is_whole-clause-entries
returns-else-not-is_whole-clause-entries c = λ past m.
    sym
    (ap (λ (l : List ℕ). c.args.reports.now ++ packed None l)
    (whole_due c.in-Some.window c.args.self.now.asks past c.args.now (wait_of c.args.trip) (sees_past c.args.self.now past c.in-Some.window c.in-Some.is m) m.asks
    (whole_when c.is_whole.result c.in-Some.window c.is_whole.ensures c.if-not-is_whole.false))
    ∙ append-nil c.args.reports.now)
