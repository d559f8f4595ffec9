use Rattle.std.proofs.Common.{◌≡◌, ◌∙◌, ℕ, ◌<◌, ◌%◌, List, Option, Some, None, ap, sym, subst, inl, ◌⊎◌, length, arith}
use Rattle.std.specs.Prelude.{option_map, slice_index_or}
use Rattle.std.proofs.lemmas.List.{get_or_default}
use Rattle.resend_core.specs.declared.ring.Entry.{Entry}
use Rattle.resend_core.specs.declared.rtx_cache_buf.EvictingBuffer.{EvictingBuffer}
use Rattle.resend_core.specs.Ring.{slot_of, place_in}
use Rattle.resend_core.specs.ResendStore.{revalued}
use Rattle.resend_core.specs.EvictingBuffer.{StandsFor, value_at, with_slot, with_value}
use Rattle.resend_core.proofs.RingLaws.{held_slot}
use Rattle.resend_core.proofs.RevaluedLaws.{placed, revalued_stands}
use Rattle.resend_core.proofs.rtx_cache_buf.EvictingBuffer.get_mut.Goals as goal

lent : {N F B : Type 0} (name : N) (f h : F) → f ≡ h → ◌≡◌ {A = (N × F) ⊎ B} (inl (name, f)) (inl (name, h))
lent {N} {F} {B} name f h e = let at : F → (N × F) ⊎ B = λ x. inl (name, x) in ap at e

stands_at : {T : Type 0} (b : EvictingBuffer T) (p : ℕ) (e : Entry T) → 0 < length b.ring.items → slot_of b.ring.items p ≡ Some e → e.position ≡ p → (past : _) (w : T) → StandsFor b past → StandsFor (with_value b p w) (revalued past p w)
unfolding with_value
stands_at {T} b p e some slot at past w h =
    subst (λ (o : Option (Entry T)). StandsFor (with_slot b (p % length b.ring.items) o w) (revalued past p w)) (sym slot)
    (subst (λ (i : ℕ). StandsFor (with_slot b (i % length b.ring.items) (Some e) w) (revalued past i w)) at
    (revalued_stands b past e w some (ap (λ (i : ℕ). slot_of b.ring.items i) at ∙ slot) h))

pub returns : goal.returns
unfolding value_at with_value
returns g c =
    let self : EvictingBuffer g.row.T.Denot = c.args.self.now in
    let items : List (Option (Entry g.row.T.Denot)) = c.args.self.now.ring.items in
    let p : ℕ = c.args.position in
    let entry : Entry g.row.T.Denot = c.in_ok-entry.entry.now in
    let place : place_in items p ≡ Some c.in_ok-index.index = ap (λ (r : List (Option (Entry g.row.T.Denot))). place_in r p) (sym c.deref.ensures.value) ∙ sym c.in_ok-index.ensures.place in
    let at = placed items p c.in_ok-index.index place in
    let within : c.in_ok-index.index < length items = subst (λ (r : List (Option (Entry g.row.T.Denot))). c.in_ok-index.index < length r) c.deref.ensures.value c.in_ok-index.ensures.within in
    let slot : slot_of items p ≡ Some entry =
    ap (λ (i : ℕ). slice_index_or items i None) (sym at.0)
    ∙ get_or_default items c.in_ok-index.index None c.index_mut.result.now within
    ∙ sym c.index_mut.ensures.value ∙ sym c.in_ok-entry.ensures.value in (
      lent _ _ _
          (ap (λ (i : ℕ). with_slot self i (Some entry)) at.0 ∙ ap (λ (o : Option (Entry g.row.T.Denot)). with_slot self (p % length items) o) (sym slot)),
      record {
        writes_back = tt;
        value = ap (λ (o : Option (Entry g.row.T.Denot)). option_map (λ (e : Entry g.row.T.Denot). e.value) o) (sym (at.1 ∙ slot));
        stands = stands_at self p entry (omega arith) slot (held_slot items p entry (at.1 ∙ slot)).1;
      },
    )
