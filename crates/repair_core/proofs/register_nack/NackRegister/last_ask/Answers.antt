use Rattle.std.proofs.Common.{◌∙◌, ◌+◌, ◌-◌, ℕ, Option, ap, sym}
use Rattle.repair_core.specs.Rounds.{numbers_up}
use Rattle.repair_core.specs.Slots.{known, latest_in}
use Rattle.repair_core.proofs.GapLaws.{latest_step, later_step, same_step}
use Rattle.repair_core.proofs.register_nack.NackRegister.last_ask.Goals as goal
use Rattle.repair_core.proofs.register_nack.NackRegister.last_ask.Goals.{then-not-slot, else-not-slot}

pub loop-number-preserved : goal.loop-number-preserved
loop-number-preserved c =
    let slots = c.args.self.now.slots in
    let k = c.loop-number.number in
    let o = c.loop-number.latest in
    let high = c.min-high.result in
    let next = latest_step slots o high k c.loop-number-test.true in
    elim c.if-not-slot.branch [
      | then-not-slot w ↦
          ap (λ (p : Option ℕ). latest_in slots p (numbers_up (high - (k + 1)) (k + 1))) (w.latest-is ∙ w.later-latest.ensures ∙ later_step c.known-slot.result (known slots k) o c.known-slot.ensures w.if-not-slot.true)
          ∙ sym next ∙ c.loop-number.invariant
      | else-not-slot w ↦
          ap (λ (p : Option ℕ). latest_in slots p (numbers_up (high - (k + 1)) (k + 1))) (w.latest-is ∙ same_step c.known-slot.result (known slots k) o c.known-slot.ensures w.if-not-slot.false)
          ∙ sym next ∙ c.loop-number.invariant
    ]
