use Rattle.std.proofs.Common.{◌≡◌, ◌∙◌, ◌+◌, ◌-◌, ◌++◌, ◌∷◌, ℕ, Bool, cond, List, Option, Some, ap, sym, subst, arith, length}
use Rattle.rtp_base.specs.declared.nack_entry.NackEntry.{NackEntry}
use Rattle.repair_core.specs.declared.missing.Missing.{Missing}
use Rattle.repair_core.specs.declared.slots.Slot.{Slot}
use Rattle.repair_core.specs.declared.register_nack.NackRegister.{NackRegister}
use Rattle.repair_core.specs.Rounds.{numbers_up}
use Rattle.repair_core.specs.Entries.{packed, IsPacking}
use Rattle.repair_core.specs.Slots.{ask, ask_all, due_in}
use Rattle.repair_core.proofs.RoundLaws.{numbers_next, slots_only, packing_more}
use Rattle.repair_core.proofs.register_nack.NackRegister.round.Goals as goal
use Rattle.repair_core.proofs.register_nack.NackRegister.round.Goals.{then-ask, else-ask}

pub loop-number-preserved : goal.loop-number-preserved
loop-number-preserved c =
    let now = c.args.now in
    let wait = c.args.wait in
    let k = c.loop-number.number in
    let g = c.self.inside.greatest in
    let low = c.max-low.result in
    let before = length c.args.reports.now in
    let slots = c.loop-number.self.slots in
    let rest = numbers_up (g - (k + 1)) (k + 1) in
    let ds = due_in now wait (ask now wait slots k) rest in
    let next : numbers_up (g - k) k ≡ k ∷ rest = numbers_next g k c.loop-number-test.true in
    let is : c.ask.new.self.slots ≡ ask now wait slots k = ap (λ (r : NackRegister). r.slots) c.ask.ensures.slots in
    let asked = ap (λ (s : List Slot). ask_all now wait s rest) is ∙ sym (ap (λ (l : List ℕ). ask_all now wait slots l) next) ∙ c.loop-number.invariant.asked in
    let shown = sym (ap (λ (l : List ℕ). c.loop-number.reports ++ packed c.loop-number.begun (due_in now wait slots l)) next) ∙ c.loop-number.invariant.entries in
    let same = slots_only c.ask.new.self c.loop-number.self c.args.self.now (ask now wait slots k) c.ask.ensures.slots c.loop-number.invariant.same in
    elim c.if-ask.branch [
      | then-ask w ↦ record {
        same = same;
        from = omega (arith, c.loop-number.invariant.from);
        near = c.loop-number.invariant.near;
        asked = asked;
        entries =
            ap (λ (s : List Slot). c.if-ask.reports ++ packed c.if-ask.begun (due_in now wait s rest)) is
            ∙ ap (λ (r : List NackEntry). r ++ packed c.if-ask.begun ds) w.reports-is
            ∙ ap (λ (o : Option Missing). w.pack.new.reports ++ packed o ds) w.begun-is
            ∙ w.pack.ensures.packed ds
            ∙ ap (λ (b : Bool). c.loop-number.reports ++ packed c.loop-number.begun (cond b (k ∷ ds) ds)) (sym w.if-ask.true ∙ c.ask.ensures.due)
            ∙ shown;
        packing =
            subst (λ (o : Option Missing). IsPacking low before (k + 1) o (length c.if-ask.reports)) (sym w.begun-is)
            (subst (λ (r : List NackEntry). IsPacking low before (k + 1) (Some w.pack.result) (length r)) (sym w.reports-is)
            (w.pack.ensures.packing low before c.loop-number.invariant.from c.loop-number.invariant.packing));
      }
      | else-ask w ↦ record {
        same = same;
        from = omega (arith, c.loop-number.invariant.from);
        near = c.loop-number.invariant.near;
        asked = asked;
        entries =
            ap (λ (s : List Slot). c.if-ask.reports ++ packed c.if-ask.begun (due_in now wait s rest)) is
            ∙ ap (λ (r : List NackEntry). r ++ packed c.if-ask.begun ds) w.reports-is
            ∙ ap (λ (o : Option Missing). c.loop-number.reports ++ packed o ds) w.begun-is
            ∙ ap (λ (b : Bool). c.loop-number.reports ++ packed c.loop-number.begun (cond b (k ∷ ds) ds)) (sym w.if-ask.false ∙ c.ask.ensures.due)
            ∙ shown;
        packing =
            subst (λ (o : Option Missing). IsPacking low before (k + 1) o (length c.if-ask.reports)) (sym w.begun-is)
            (subst (λ (r : List NackEntry). IsPacking low before (k + 1) c.loop-number.begun (length r)) (sym w.reports-is)
            (packing_more low before k (length c.loop-number.reports) c.loop-number.begun c.loop-number.invariant.packing));
      }
    ]
