use Rattle.std.proofs.Common.{◌≡◌, ◌∙◌, ℕ, ◌≤◌, ◌+◌, ◌%◌, true, max, List, ap, refl, sym, subst}
use Rattle.std.specs.Prelude.{slice_set}
use Rattle.repair_core.specs.declared.slots.Slot.{Slot}
use Rattle.repair_core.specs.RegisterState.{RegisterState, IsSettled}
use Rattle.repair_core.proofs.SettledLaws.{settled_first, settled_on}
use Rattle.repair_core.proofs.register_nack.NackRegister.put.Goals as goal
use Rattle.repair_core.proofs.register_nack.NackRegister.put.Goals.{then-not-self, else-not-self}

pub invariant_of-self : goal.invariant_of-self
invariant_of-self c =
    elim c.if-not-self.branch [
      | then-not-self w ↦
          let a : c.if-not-self.self-inside.first ≡ c.args.number = rw w.self-inside-is refl in
          let b : c.if-not-self.self-inside.greatest ≡ c.args.number = rw w.self-inside-is refl in
          let d : c.if-not-self.self-inside.settled ≡ 0 = rw w.self-inside-is refl in
          settled_first c.if-not-self.self-inside.first c.max-self-inside.result c.if-not-self.self-inside.settled c.args.number c.put.new.self a (c.max-self-inside.ensures ∙ ap (λ (n : ℕ). max n c.args.number) b) d c.requires.small
      | else-not-self w ↦
          let a : c.if-not-self.self-inside.first ≡ c.self.inside.first = rw w.self-inside-is refl in
          let b : c.if-not-self.self-inside.greatest ≡ c.self.inside.greatest = rw w.self-inside-is refl in
          let d : c.if-not-self.self-inside.settled ≡ c.self.inside.settled = rw w.self-inside-is refl in
          let slots : c.if-not-self.self-inside.slots ≡ c.self.inside.slots = rw w.self-inside-is refl in
          settled_on c.self.inside.first c.self.inside.greatest c.self.inside.settled c.args.number c.if-not-self.self-inside.slots c.if-not-self.self-inside.first c.max-self-inside.result c.if-not-self.self-inside.settled c.put.new.self
          a (c.max-self-inside.ensures ∙ ap (λ (n : ℕ). max n c.args.number) b) d
          (c.put.ensures.value ∙ ap (λ (t : ℕ). slice_set c.if-not-self.self-inside.slots (c.args.number % 101) (record { number = c.args.number; taken = true; asks = 0; last = t })) c.from_nanos.ensures)
          c.put.ensures.long c.requires.small
          (subst (λ (n : ℕ). n ≤ c.args.number + 100) (ap (λ (r : RegisterState). r.greatest) (sym c.self.view_is)) (c.requires.near (ap (λ (r : RegisterState). r.started) (sym c.self.view_is) ∙ w.if-not-self.false)))
          (subst (λ (s : List Slot). IsSettled c.self.inside.first c.self.inside.greatest s c.self.inside.settled) (sym slots) c.self.invariant)
    ]
