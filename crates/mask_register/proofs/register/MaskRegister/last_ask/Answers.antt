use Rattle.std.proofs.Common.{◌≡◌, ◌∙◌, ◌+◌, ◌-◌, ℕ, Bool, List, Option, cond, ap, sym, arith}
use Rattle.repair_core.specs.Rounds.{numbers_up, later}
use Rattle.mask_register.specs.declared.asks.Ask.{Ask}
use Rattle.mask_register.specs.Asks.{row_of}
use Rattle.mask_register.specs.Window.{is_missing}
use Rattle.mask_register.specs.MaskRegister.{latest_of}
use Rattle.mask_register.proofs.AskLaws.{numbers_next}
use Rattle.mask_register.proofs.register.MaskRegister.last_ask.Goals as goal
use Rattle.mask_register.proofs.register.MaskRegister.last_ask.Goals.{then-is_missing, else-is_missing}

pub loop-number-preserved : goal.loop-number-preserved
loop-number-preserved c =
    let w = c.args.window.now in
    let rows = c.args.self.now.asks in
    let k = c.loop-number.number in
    let high = c.min-high.result in
    let o = c.loop-number.latest in
    let next = numbers_next high k c.loop-number-test.true in
    let latest : c.if-is_missing.latest ≡ cond (is_missing w k) (later o (row_of rows k).last) o =
    elim c.if-is_missing.branch [
      | then-is_missing x ↦ x.latest-is ∙ x.later-latest.ensures ∙ ap (λ (a : Ask). later o a.last) x.row.ensures ∙ sym (ap (λ (b : Bool). cond b (later o (row_of rows k).last) o) (sym c.is_missing.ensures ∙ x.if-is_missing.true))
      | else-is_missing x ↦ x.latest-is ∙ sym (ap (λ (b : Bool). cond b (later o (row_of rows k).last) o) (sym c.is_missing.ensures ∙ x.if-is_missing.false))
    ] in
    record {
      from = omega (arith, c.loop-number.invariant.from);
      rest =
          ap (λ (p : Option ℕ). latest_of w rows p (numbers_up (high - (k + 1)) (k + 1))) latest
          ∙ sym (ap (λ (l : List ℕ). latest_of w rows o l) next)
          ∙ c.loop-number.invariant.rest;
    }
