use Rattle.std.proofs.Common.{Option, Some, None, sym, ◌∙◌, ap}
use Rattle.std.specs.Prelude.{if◌then◌else◌}
use Rattle.run_widens.specs.declared.taken.Taken.{Taken}
use Rattle.run_widens.specs.Taken.{with_restored}
use Rattle.run_widens.specs.Widens.{something}
use Rattle.run_widens.proofs.widens.after_repair.Goals as goal

pub returns-then-was_sent : goal.returns-then-was_sent
returns-then-was_sent c =
    let key = c.key_in-key in
    something key.result c.in-Some.low c.in-Some.payload.now c.in-Some.ensures (key.ensures.number ∙ c.widen16-number.ensures.value) key.ensures.carried
    (ap Some (c.restored.ensures ∙ ap (λ n. with_restored n c.args.taken) (sym key.ensures.number))
    ∙ ap (λ b. let t : Option Taken = if b then Some (with_restored key.result.number c.args.taken) else None in t) (sym (sym c.was_sent.ensures ∙ c.if-was_sent.true)))

pub returns-else-was_sent : goal.returns-else-was_sent
returns-else-was_sent c =
    let key = c.key_in-key in
    something key.result c.in-Some.low c.in-Some.payload.now c.in-Some.ensures (key.ensures.number ∙ c.widen16-number.ensures.value) key.ensures.carried
    (ap (λ b. let t : Option Taken = if b then Some (with_restored key.result.number c.args.taken) else None in t) (sym (sym c.was_sent.ensures ∙ c.if-was_sent.false)))
