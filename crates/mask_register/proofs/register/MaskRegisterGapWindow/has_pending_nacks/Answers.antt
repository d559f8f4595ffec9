use Rattle.std.proofs.Common.{◌∙◌, ap, sym}
use Rattle.std.specs.Prelude.{not}
use Rattle.mask_register.proofs.RegisterLaws.{sees_past, whole_when}
use Rattle.mask_register.proofs.AskLaws.{pending_is, whole_pending}
use Rattle.mask_register.proofs.register.MaskRegisterGapWindow.has_pending_nacks.Goals as goal

pub returns-then-not-is_whole : goal.returns-then-not-is_whole
returns-then-not-is_whole c = λ past m.
    c.has_open.ensures ∙ pending_is c.in-Some.window c.args.self.now.asks past (sees_past c.args.self.now past c.in-Some.window c.in-Some.is m) m.asks

pub returns-else-not-is_whole : goal.returns-else-not-is_whole
returns-else-not-is_whole c = λ past m.
    ap not c.if-not-is_whole.false ∙ sym (whole_pending c.in-Some.window c.args.self.now.asks past (sees_past c.args.self.now past c.in-Some.window c.in-Some.is m) m.asks (whole_when c.is_whole.result c.in-Some.window c.is_whole.ensures c.if-not-is_whole.false))
