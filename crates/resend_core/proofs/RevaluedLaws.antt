-- What a buffer stands for in which a value was changed in its place.
use Rattle.std.proofs.Common.{◌≡◌, ◌≢◌, ℕ, ◌+◌, ◌%◌, ◌<◌, ◌≤◌, Bool, true, false, cond, eqb, List, refl, sym, ap, ◌∙◌, subst, length, map, inl, inr, ⊎_elim, ◌⊎◌, Option, Some, None}
use Rattle.std.specs.Prelude.{option_map, slice_index_or}
use Rattle.std.proofs.lemmas.Bool.{cases_eq}
use Rattle.resend_core.specs.declared.ring.Entry.{Entry}
use Rattle.resend_core.specs.declared.rtx_cache_buf.EvictingBuffer.{EvictingBuffer}
use Rattle.resend_core.specs.Ring.{matching, slot_of, held, place_in, put_in}
use Rattle.resend_core.specs.ResendStore.{Past, revalued_event, revalued, stored_under, last_under, stored_at, after_pushed, evicted_at, latest_eviction, IsRising, MayGo}
use Rattle.resend_core.specs.EvictingBuffer.{StandsFor, with_slot}
use Rattle.resend_core.specs.EventLaws.{with_moment}
use Rattle.resend_core.proofs.EventsRevalued.{greatest_same, last_same, after_same, evicted_same, at_same, rising_same, under_far, under_all, may_go_same}
use Rattle.resend_core.proofs.RingLaws.{held_slot, slot_held, held_put_same, held_put_other, held_put_from, in_place_put, length-put}

-- the index of a position is that of its slot, where its entry stands
pub placed : {T : Type 0} (ring : List (Option (Entry T))) (p i : ℕ) → place_in ring p ≡ Some i → (i ≡ p % length ring) × (held ring p ≡ slot_of ring p)
placed {T} ring p i is = pick (slot_of ring p) is where
  pick : (o : Option (Entry T)) → option_map (λ (e : Entry T). p % length ring) (matching p o) ≡ Some i → (i ≡ p % length ring) × (matching p o ≡ o)
  pick None k = absurd (let not_so : None ≡ Some i = k in cc)
  pick (Some e) k = choose (eqb e.position p) k where
    choose : (b : Bool) → option_map (λ (e : Entry T). p % length ring) (cond b (Some e) None) ≡ Some i → (i ≡ p % length ring) × (cond b (Some e) None ≡ Some e)
    choose true k = (cc, refl)
    choose false k = absurd (let not_so : None ≡ Some i = k in cc)

-- the value of an entry was changed
pub revalued_stands : {T : Type 0} (b : EvictingBuffer T) (past : Past T) (e : Entry T) (w : T) → 0 < length b.ring.items → slot_of b.ring.items e.position ≡ Some e → StandsFor b past
    → StandsFor (with_slot b (e.position % length b.ring.items) (Some e) w) (revalued past e.position w)
revalued_stands {T} b past e w some slot h =
    record {
      ages = h.ages;
      sized = h.sized;
      roomy = λ r. rw (length-put b.ring.items new) (h.roomy r);
      timed = h.timed ∙ sym (greatest_same evicted_at e.position w past.events (evicted_same e.position w));
      in_place = in_place_put b.ring.items new some h.in_place;
      true_to = λ q x is. true_at q x is;
      keeps = λ q t v is. keeps_at q t v is;
      newest = h.newest ∙ sym (last_same stored_at e.position w past.events (at_same e.position w));
      marked = λ m is. subst (λ (n : ℕ). m ≤ n) (sym (greatest_same after_pushed e.position w past.events (after_same e.position w))) (h.marked m is);
      inert = λ z. length-put b.ring.items new ∙ h.inert z;
      low = λ q x is. bound (λ n. b.low ≤ n) q x is (h.low e.position e (slot_held b.ring.items e slot)) (λ k. h.low q x k);
      high = λ q x is. bound (λ n. n ≤ b.high) q x is (h.high e.position e (slot_held b.ring.items e slot)) (λ k. h.high q x k);
      young = λ r q x is. subst (λ (n : ℕ). n ≤ x.moment + past.age) (sym (greatest_same evicted_at e.position w past.events (evicted_same e.position w))) (young_at (rising_same e.position w past.events r) q x is);
    } where
      new : Entry T
      new = record e { value = w }

      bound : (Q : ℕ → Type 0) (q : ℕ) (x : Entry T) → held (put_in b.ring.items (record e { value = w })) q ≡ Some x → Q e.position → (held b.ring.items q ≡ Some x → Q q) → Q q
      bound Q q x is here there =
          ⊎_elim
          (λ (k : (record e { value = w } ≡ x) × (e.position ≡ q)). subst Q k.1 here)
          (λ (k : held b.ring.items q ≡ Some x). there k)
          (held_put_from b.ring.items (record e { value = w }) q x some is)

      mine : held b.ring.items e.position ≡ Some e
      mine = slot_held b.ring.items e slot

      was : last_under e.position past.events ≡ Some (e.moment, e.value)
      was = h.true_to e.position e (slot_held b.ring.items e slot)

      is_now : last_under e.position (map (revalued_event e.position w) past.events) ≡ Some (e.moment, w)
      is_now = under_all e.position w past.events ∙ ap (λ (o : Option (ℕ × T)). option_map (with_moment w) o) (h.true_to e.position e (slot_held b.ring.items e slot))

      true_at : (q : ℕ) (x : Entry T) → held (put_in b.ring.items (record e { value = w })) q ≡ Some x → last_under q (map (revalued_event e.position w) past.events) ≡ Some (x.moment, x.value)
      true_at q x is =
          ⊎_elim
          (λ (at : q ≡ e.position).
          let both : Some (record e { value = w }) ≡ Some x = sym (held_put_same b.ring.items (record e { value = w }) some) ∙ ap (λ (i : ℕ). held (put_in b.ring.items (record e { value = w })) i) (sym at) ∙ is in
          let eq : record e { value = w } ≡ x = cc in
          ap (λ (i : ℕ). last_under i (map (revalued_event e.position w) past.events)) at
          ∙ (under_all e.position w past.events ∙ ap (λ (o : Option (ℕ × T)). option_map (with_moment w) o) (h.true_to e.position e (slot_held b.ring.items e slot)))
          ∙ ap (λ (y : Entry T). Some (y.moment, y.value)) eq)
          (λ (ne : q ≢ e.position).
          last_same (stored_under q) e.position w past.events (under_far e.position w q ne)
          ∙ h.true_to q x (older q x ne is))
          (cases_eq q e.position) where
            older : (q : ℕ) (x : Entry T) → q ≢ e.position → held (put_in b.ring.items (record e { value = w })) q ≡ Some x → held b.ring.items q ≡ Some x
            older q x ne is = ⊎_elim (λ (k : (record e { value = w } ≡ x) × (e.position ≡ q)). absurd (ne (sym k.1))) (λ (k : held b.ring.items q ≡ Some x). k) (held_put_from b.ring.items (record e { value = w }) q x some is)

      keeps_at : (q t : ℕ) (v : T) → last_under q (map (revalued_event e.position w) past.events) ≡ Some (t, v)
          → (held (put_in b.ring.items (record e { value = w })) q ≡ Some (record { position = q; moment = t; value = v })) ⊎ MayGo (revalued past e.position w) q t
      keeps_at q t v is =
          ⊎_elim
          (λ (at : q ≡ e.position).
          let now_here : last_under e.position (map (revalued_event e.position w) past.events) ≡ Some (e.moment, w) =
          under_all e.position w past.events ∙ ap (λ (o : Option (ℕ × T)). option_map (with_moment w) o) (h.true_to e.position e (slot_held b.ring.items e slot)) in
          let pair : Some (e.moment, w) ≡ Some (t, v) = sym now_here ∙ ap (λ (i : ℕ). last_under i (map (revalued_event e.position w) past.events)) (sym at) ∙ is in
          let inside : ◌≡◌ {A = ℕ × T} (e.moment, w) (t, v) = cc in
          inl (ap (λ (i : ℕ). held (put_in b.ring.items (record e { value = w })) i) at ∙ held_put_same b.ring.items (record e { value = w }) some
          ∙ ap (λ (y : Entry T). Some y) (same_entry q t v (sym at) (ap (λ (y : ℕ × T). y.0) inside) (ap (λ (y : ℕ × T). y.1) inside))))
          (λ (ne : q ≢ e.position).
          ⊎_elim
          (λ (k : held b.ring.items q ≡ Some (record { position = q; moment = t; value = v })).
          inl (held_put_other b.ring.items (record e { value = w }) q (apart q (record { position = q; moment = t; value = v }) ne k refl) ∙ k))
          (λ (k : MayGo past q t). inr (may_go_same past e.position w q t k))
          (h.keeps q t v (sym (last_same (stored_under q) e.position w past.events (under_far e.position w q ne)) ∙ is)))
          (cases_eq q e.position) where
            same_entry : (q t : ℕ) (v : T) → e.position ≡ q → e.moment ≡ t → w ≡ v → ◌≡◌ {A = Entry T} (record e { value = w }) (record { position = q; moment = t; value = v })
            same_entry q t v i j k = rw (← i, ← j, ← k) refl

            apart : (q : ℕ) (x : Entry T) → q ≢ e.position → held b.ring.items q ≡ Some x → x.position ≡ q → q % length b.ring.items ≢ e.position % length b.ring.items
            apart q x ne k at same =
                let there = held_slot b.ring.items q x k in
                let both : Some x ≡ Some e = sym there.0 ∙ ap (λ (i : ℕ). slice_index_or b.ring.items i None) same ∙ slot in
                let eq : x ≡ e = cc in
                ne (sym at ∙ ap (λ (y : Entry T). y.position) eq)

      young_at : IsRising past.events → (q : ℕ) (x : Entry T) → held (put_in b.ring.items (record e { value = w })) q ≡ Some x → latest_eviction past.events ≤ x.moment + past.age
      young_at r q x is =
          ⊎_elim
          (λ (k : (record e { value = w } ≡ x) × (e.position ≡ q)).
          subst (λ (y : Entry T). latest_eviction past.events ≤ y.moment + past.age) k.0 (h.young r e.position e (slot_held b.ring.items e slot)))
          (λ (k : held b.ring.items q ≡ Some x). h.young r q x k)
          (held_put_from b.ring.items (record e { value = w }) q x some is)
