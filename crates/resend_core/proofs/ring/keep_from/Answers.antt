use Rattle.std.proofs.Common.{◌≡◌, ◌<◌, ◌∙◌, length, Option, ap, sym, arith}
use Rattle.std.specs.Prelude.{slice_set}
use Rattle.std.proofs.lemmas.Grind.{common_steps}
use Rattle.std.proofs.lemmas.List.Edits.{map_over_more}
use Rattle.std.proofs.lemmas.List.{take_all, drop_all}
use Rattle.resend_core.specs.declared.ring.Entry.{Entry}
use Rattle.resend_core.specs.Ring.{kept_from}
use Rattle.resend_core.proofs.ring.keep_from.Goals as goal

pub loop-slot-preserved : goal.loop-slot-preserved
loop-slot-preserved g c =
    let first = c.args.first in
    let within : c.loop-slot.slot-index < length c.args.ring.now = omega arith in
    let is : c.kept.result ≡ kept_from first c.slot-item.result = c.kept.ensures ∙ ap (kept_from {T = g.row.T.Denot} first) (c.take-old.ensures.value ∙ sym c.slot-item.is) in
    ap (λ (v : Option (Entry g.row.T.Denot)). slice_set c.loop-slot.ring c.loop-slot.slot-index v) is
    ∙ map_over_more (kept_from {T = g.row.T.Denot} first) c.args.ring.now c.loop-slot.ring c.loop-slot.slot-index c.slot-item.result within c.loop-slot.invariant c.slot-item.is

pub returns : goal.returns
returns g c = grind (arith, common_steps, take_all, drop_all)
