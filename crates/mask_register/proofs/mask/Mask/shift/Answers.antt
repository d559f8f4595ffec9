use Rattle.std.proofs.Common.{◌≡◌, ◌∙◌, ◌-◌, ◌<◌, ℕ, Bool, false, ap, sym, arith}
use Rattle.std.specs.Prelude.{◌&&◌, nat_le}
use Rattle.std.proofs.lemmas.Bool.Decides.{nat_tests}
use Rattle.mask_register.specs.Mask.{has}
use Rattle.mask_register.proofs.MaskLaws.{shifted_has, none_has}
use Rattle.mask_register.proofs.mask.Mask.shift.Goals as goal
use Rattle.mask_register.proofs.mask.Mask.shift.Goals.{then-by-le-MAX_MISORDER, else-by-le-MAX_MISORDER}

beyond : (a b : ℕ) → b < a → nat_le a b ≡ false
beyond a b l = grind (arith, nat_tests)

pub returns : goal.returns
returns c = λ i h.
    elim c.if-by-le-MAX_MISORDER.branch [
      | then-by-le-MAX_MISORDER w ↦
          ap (λ (n : ℕ). has (record { bits = n }) i) w.self-is ∙ shifted_has c.args.self.now c.args.by i h w.if-by-le-MAX_MISORDER.true
      | else-by-le-MAX_MISORDER w ↦
          ap (λ (n : ℕ). has (record { bits = n }) i) w.self-is ∙ none_has i
          ∙ sym (ap (λ (b : Bool). b && has c.args.self.now (i - c.args.by)) (beyond c.args.by i (omega arith)))
    ]
