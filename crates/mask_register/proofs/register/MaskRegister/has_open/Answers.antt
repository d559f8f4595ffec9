use Rattle.std.proofs.Common.{◌≡◌, ◌∙◌, ◌+◌, ◌-◌, ◌≤◌, ℕ, Bool, List, true, false, ap, sym, arith, ltb}
use Rattle.std.specs.Prelude.{◌&&◌, ◌||◌}
use Rattle.std.specs.List.{list_any}
use Rattle.std.proofs.lemmas.Bool.Decides.{nat_tests}
use Rattle.repair_core.specs.Rounds.{numbers_up}
use Rattle.mask_register.specs.declared.asks.Ask.{Ask}
use Rattle.mask_register.specs.Asks.{row_of}
use Rattle.mask_register.specs.Window.{is_missing}
use Rattle.mask_register.specs.MaskRegister.{is_open}
use Rattle.mask_register.proofs.AskLaws.{numbers_next}
use Rattle.mask_register.proofs.register.MaskRegister.has_open.Goals as goal
use Rattle.mask_register.proofs.register.MaskRegister.has_open.Goals.{else-is_missing-via-then-is_missing+else-row-lt-MAX_NACKS, else-is_missing-via-else-is_missing}

closed_rows : (m : Bool) (row got : Ask) → m ≡ true → got ≡ row → 5 ≤ got.times → (m && ltb row.times 5) ≡ false
closed_rows m row got e is far = let same : got.times ≡ row.times = ap (λ (a : Ask). a.times) is in grind (arith, nat_tests)

pub loop-number-preserved : goal.loop-number-preserved
loop-number-preserved c =
    let w = c.args.window.now in
    let rows = c.args.self.now.asks in
    let k = c.loop-number.number in
    let high = c.min-high.result in
    let next = numbers_next high k c.loop-number-test.true in
    let closed : is_open w rows k ≡ false =
    elim c.else-is_missing.branch [
      | else-is_missing-via-then-is_missing+else-row-lt-MAX_NACKS x ↦ closed_rows (is_missing w k) (row_of rows k) x.row.result (sym c.is_missing.ensures ∙ x.if-is_missing.true) x.row.ensures x.if-row-lt-MAX_NACKS.false
      | else-is_missing-via-else-is_missing x ↦ ap (λ (b : Bool). b && ltb (row_of rows k).times 5) (sym c.is_missing.ensures ∙ x.if-is_missing.false)
    ] in
    record {
      from = omega (arith, c.loop-number.invariant.from);
      rest =
          sym (ap (λ (l : List ℕ). list_any (is_open w rows) l) next ∙ ap (λ (b : Bool). b || list_any (is_open w rows) (numbers_up (high - (k + 1)) (k + 1))) closed)
          ∙ c.loop-number.invariant.rest;
    }
