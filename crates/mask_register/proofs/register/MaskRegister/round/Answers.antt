use Rattle.std.proofs.Common.{◌≡◌, ◌∙◌, ◌+◌, ◌-◌, ◌≤◌, ◌++◌, ◌∷◌, [], ℕ, Bool, true, false, cond, List, Option, Some, ap, sym, subst, arith, length, append_assoc, length-append}
use Rattle.std.specs.Prelude.{◌&&◌}
use Rattle.rtp_base.specs.declared.nack_entry.NackEntry.{NackEntry}
use Rattle.repair_core.specs.declared.missing.Missing.{Missing}
use Rattle.repair_core.specs.Rounds.{numbers_up}
use Rattle.repair_core.specs.Entries.{packed, IsPacking}
use Rattle.mask_register.specs.declared.asks.Ask.{Ask}
use Rattle.mask_register.specs.Asks.{row_of, turned, is_due_row}
use Rattle.mask_register.specs.Window.{lowest_in, is_missing}
use Rattle.mask_register.specs.MaskRegister.{rows_after, due_of}
use Rattle.mask_register.proofs.AskLaws.{numbers_next}
use Rattle.mask_register.proofs.RegisterLaws.{packing_more}
use Rattle.mask_register.proofs.register.MaskRegister.round.Goals as goal
use Rattle.mask_register.proofs.register.MaskRegister.round.Goals.{then-is_missing, then-is_due, else-is_due, else-is_missing}

pub loop-number-preserved : goal.loop-number-preserved
loop-number-preserved c =
    let now = c.args.now in
    let wait = c.args.wait in
    let w = c.args.window.now in
    let old = c.args.self.now.asks in
    let k = c.loop-number.number in
    let g = w.greatest in
    let low = lowest_in w in
    let before = length c.args.reports.now in
    let up = numbers_up (g - (k + 1)) (k + 1) in
    let rest = rows_after w old now wait up in
    let ds = due_of w old now wait up in
    let next : numbers_up (g - k) k ≡ k ∷ up = numbers_next g k c.loop-number-test.true in
    let rows : c.loop-number.asks ++ cond (is_missing w k) (turned (row_of old k) now wait ∷ rest) rest ≡ rows_after w old now wait (numbers_up (g - low) low) =
    sym (ap (λ (l : List ℕ). c.loop-number.asks ++ rows_after w old now wait l) next) ∙ c.loop-number.invariant.rows in
    let entries = sym (ap (λ (l : List ℕ). c.loop-number.reports ++ packed c.loop-number.begun (due_of w old now wait l)) next) ∙ c.loop-number.invariant.entries in
    elim c.if-is_missing.branch [
      | then-is_missing v ↦
          let there : is_missing w k ≡ true = sym c.is_missing.ensures ∙ v.if-is_missing.true in
          let t = turned (row_of old k) now wait in
          let asks : c.if-is_missing.asks ≡ c.loop-number.asks ++ t ∷ [] =
          v.asks-is ∙ v.push.ensures ∙ ap (λ (a : Ask). c.loop-number.asks ++ a ∷ []) (v.turned.ensures ∙ ap (λ (a : Ask). turned a now wait) v.row-ask.ensures) in
          let few : low + length c.if-is_missing.asks ≤ k + 1 =
          subst (λ (a : List Ask). low + length a ≤ k + 1) (sym asks) (omega (arith, length-append c.loop-number.asks (t ∷ []), c.loop-number.invariant.few)) in
          let all_rows : c.if-is_missing.asks ++ rest ≡ rows_after w old now wait (numbers_up (g - low) low) =
          ap (λ (a : List Ask). a ++ rest) asks ∙ append_assoc c.loop-number.asks (t ∷ []) rest
          ∙ ap (λ (b : Bool). c.loop-number.asks ++ cond b (t ∷ rest) rest) (sym there) ∙ rows in
          let due : v.is_due.result ≡ (is_missing w k && is_due_row (row_of old k) now wait) =
          v.is_due.ensures.value ∙ ap (λ (a : Ask). is_due_row a now wait) v.row-ask.ensures
          ∙ sym (ap (λ (b : Bool). b && is_due_row (row_of old k) now wait) there) in
          elim v.if-is_due.branch [
            | then-is_due x ↦ record {
              from = omega (arith, c.loop-number.invariant.from);
              few = few;
              rows = all_rows;
              entries =
                  ap (λ (r : List NackEntry). r ++ packed c.if-is_missing.begun ds) (v.reports-is ∙ x.reports-is)
                  ∙ ap (λ (o : Option Missing). x.pack.new.reports ++ packed o ds) (v.begun-is ∙ x.begun-is)
                  ∙ x.pack.ensures.packed ds
                  ∙ ap (λ (b : Bool). c.loop-number.reports ++ packed c.loop-number.begun (cond b (k ∷ ds) ds)) (sym x.if-is_due.true ∙ due)
                  ∙ entries;
              packing =
                  subst (λ (o : Option Missing). IsPacking low before (k + 1) o (length c.if-is_missing.reports)) (sym (v.begun-is ∙ x.begun-is))
                  (subst (λ (r : List NackEntry). IsPacking low before (k + 1) (Some x.pack.result) (length r)) (sym (v.reports-is ∙ x.reports-is))
                  (x.pack.ensures.packing low before c.loop-number.invariant.from c.loop-number.invariant.packing));
            }
            | else-is_due x ↦ record {
              from = omega (arith, c.loop-number.invariant.from);
              few = few;
              rows = all_rows;
              entries =
                  ap (λ (r : List NackEntry). r ++ packed c.if-is_missing.begun ds) (v.reports-is ∙ x.reports-is)
                  ∙ ap (λ (o : Option Missing). c.loop-number.reports ++ packed o ds) (v.begun-is ∙ x.begun-is)
                  ∙ ap (λ (b : Bool). c.loop-number.reports ++ packed c.loop-number.begun (cond b (k ∷ ds) ds)) (sym x.if-is_due.false ∙ due)
                  ∙ entries;
              packing =
                  subst (λ (o : Option Missing). IsPacking low before (k + 1) o (length c.if-is_missing.reports)) (sym (v.begun-is ∙ x.begun-is))
                  (subst (λ (r : List NackEntry). IsPacking low before (k + 1) c.loop-number.begun (length r)) (sym (v.reports-is ∙ x.reports-is))
                  (packing_more low before k (length c.loop-number.reports) c.loop-number.begun c.loop-number.invariant.packing));
            }
          ]
      | else-is_missing v ↦
          let gone : is_missing w k ≡ false = sym c.is_missing.ensures ∙ v.if-is_missing.false in
          record {
            from = omega (arith, c.loop-number.invariant.from);
            few = subst (λ (a : List Ask). low + length a ≤ k + 1) (sym v.asks-is) (omega (arith, c.loop-number.invariant.few));
            rows =
                ap (λ (a : List Ask). a ++ rest) v.asks-is
                ∙ ap (λ (b : Bool). c.loop-number.asks ++ cond b (turned (row_of old k) now wait ∷ rest) rest) (sym gone) ∙ rows;
            entries =
                ap (λ (r : List NackEntry). r ++ packed c.if-is_missing.begun ds) v.reports-is
                ∙ ap (λ (o : Option Missing). c.loop-number.reports ++ packed o ds) v.begun-is
                ∙ ap (λ (b : Bool). c.loop-number.reports ++ packed c.loop-number.begun (cond (b && is_due_row (row_of old k) now wait) (k ∷ ds) ds)) (sym gone)
                ∙ entries;
            packing =
                subst (λ (o : Option Missing). IsPacking low before (k + 1) o (length c.if-is_missing.reports)) (sym v.begun-is)
                (subst (λ (r : List NackEntry). IsPacking low before (k + 1) c.loop-number.begun (length r)) (sym v.reports-is)
                (packing_more low before k (length c.loop-number.reports) c.loop-number.begun c.loop-number.invariant.packing));
          }
    ]
