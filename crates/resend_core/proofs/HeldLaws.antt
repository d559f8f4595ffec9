-- What a ring holds after an entry was put in, and what a buffer holds: the laws of every store.
use Rattle.std.specs.Prelude.{◌≡◌, ◌≢◌, ℕ, ◌%◌, ◌<◌, Bool, true, false, cond, List, [], ◌∷◌, length, slice_index_or, Option, Some, None, option_map}
use Rattle.std.proofs.Common.{eqb, refl, sym, ap, ◌∙◌, arith, ⊎_elim}
use Rattle.std.proofs.lemmas.Bool.Decides.{nat_tests}
use Rattle.std.proofs.lemmas.Bool.{cases_eq}
use Rattle.std.proofs.lemmas.List.{get_or-set_other, get_or-set_same, length-set}
use Rattle.resend_core.specs.declared.ring.Entry.{Entry}
use Rattle.resend_core.specs.declared.rtx_cache_buf.EvictingBuffer.{EvictingBuffer}
use Rattle.resend_core.specs.Ring.{matching, slot_of, held, put_in}
use Rattle.resend_core.specs.ResendStore.{Past, MayGo, HeldAs}
use Rattle.resend_core.specs.EvictingBuffer.{StandsFor, value_at, with_slot, with_value}

pub matching_same : {T : Type 0} (e : Entry T) → matching e.position (Some e) ≡ Some e
matching_same e = grind (arith, nat_tests)

pub matching_some : {T : Type 0} (q : ℕ) (o : Option (Entry T)) (e : Entry T) → matching q o ≡ Some e → (o ≡ Some e) × (e.position ≡ q)
matching_some q None e h = absurd (let no : None ≡ Some e = h in cc)
matching_some {T} q (Some f) e h = pick (eqb f.position q) refl h where
  pick : (b : Bool) → eqb f.position q ≡ b → cond b (Some f) None ≡ Some e → (Some f ≡ Some e) × (e.position ≡ q)
  pick false t k = absurd (let no : None ≡ Some e = k in cc)
  pick true t k = (k, let same : f ≡ e = cc in let at : f.position ≡ q = grind (arith, nat_tests) in ap (λ (x : Entry T). x.position) (sym same) ∙ at)

pub held_slot : {T : Type 0} (ring : List (Option (Entry T))) (q : ℕ) (e : Entry T) → held ring q ≡ Some e → (slot_of ring q ≡ Some e) × (e.position ≡ q)
held_slot ring q e h = matching_some q (slot_of ring q) e h

pub slot_held : {T : Type 0} (ring : List (Option (Entry T))) (e : Entry T) → slot_of ring e.position ≡ Some e → held ring e.position ≡ Some e
slot_held ring e h = rw h (matching_same e)

pub length-put : {T : Type 0} (ring : List (Option (Entry T))) (e : Entry T) → length (put_in ring e) ≡ length ring
length-put ring e = length-set ring (e.position % length ring) (Some e)

pub slot_put_same : {T : Type 0} (ring : List (Option (Entry T))) (e : Entry T) (q : ℕ) → 0 < length ring → q % length ring ≡ e.position % length ring → slot_of (put_in ring e) q ≡ Some e
slot_put_same ring e q some is =
    let within : e.position % length ring < length ring = omega arith in
    rw (length-put ring e, is) (get_or-set_same ring (e.position % length ring) (Some e) None within)

slot_put_other : {T : Type 0} (ring : List (Option (Entry T))) (e : Entry T) (q : ℕ) → q % length ring ≢ e.position % length ring → slot_of (put_in ring e) q ≡ slot_of ring q
slot_put_other ring e q far =
    rw (length-put ring e) (get_or-set_other ring (e.position % length ring) (q % length ring) (Some e) None far)

pub held_put_same : {T : Type 0} (ring : List (Option (Entry T))) (e : Entry T) → 0 < length ring → held (put_in ring e) e.position ≡ Some e
held_put_same ring e some = slot_held (put_in ring e) e (slot_put_same ring e e.position some refl)

pub held_put_other : {T : Type 0} (ring : List (Option (Entry T))) (e : Entry T) (q : ℕ) → q % length ring ≢ e.position % length ring → held (put_in ring e) q ≡ held ring q
held_put_other ring e q far = ap (λ o. matching q o) (slot_put_other ring e q far)

-- what is held under a position is what the past lets be held
pub held_as : {T : Type 0} (b : EvictingBuffer T) (past : Past T) (p : ℕ) → StandsFor b past → HeldAs past p (value_at b p)
unfolding value_at
held_as {T} b past p h = pick (held b.ring.items p) refl where
  pick : (o : Option (Entry T)) → held b.ring.items p ≡ o → HeldAs past p (option_map (λ e. e.value) o)
  pick None is = λ t v last. ⊎_elim
      (λ (k : held b.ring.items p ≡ Some (record { position = p; moment = t; value = v })). absurd (none_some (record { position = p; moment = t; value = v }) (sym is ∙ k)))
      (λ (k : MayGo past p t). k)
      (h.keeps p t v last) where
        none_some : (e : Entry T) → None ≡ Some e → ⊥
        none_some e k = cc
  pick (Some e) is = (e.moment, h.true_to p e is, λ r. h.young r p e is)

-- another value under a position where one is held
changed : {T : Type 0} (b : EvictingBuffer T) (p : ℕ) (v w : T) → value_at b p ≡ Some v → (e : Entry T) × (held b.ring.items p ≡ Some e) × (with_value b p w ≡ with_slot b (p % length b.ring.items) (Some e) w)
unfolding value_at with_value
changed {T} b p v w is = pick (held b.ring.items p) refl is where
  pick : (o : Option (Entry T)) → held b.ring.items p ≡ o → option_map (λ (e : Entry T). e.value) o ≡ Some v → (e : Entry T) × (held b.ring.items p ≡ Some e) × (with_slot b (p % length b.ring.items) (slot_of b.ring.items p) w ≡ with_slot b (p % length b.ring.items) (Some e) w)
  pick None k l = absurd (let not_so : None ≡ Some v = l in cc)
  pick (Some e) k l = (e, k, ap (λ (o : Option (Entry T)). with_slot b (p % length b.ring.items) o w) (held_slot b.ring.items p e k).0)

some_ring : {T : Type 0} (ring : List (Option (Entry T))) (p : ℕ) (e : Entry T) → held ring p ≡ Some e → 0 < length ring
some_ring [] p e h = absurd (let not_so : None ≡ Some e = h in cc)
some_ring (o ∷ os) p e h = omega arith

held_changed : {T : Type 0} (b : EvictingBuffer T) (p q : ℕ) (e : Entry T) (w : T) → p ≡ e.position → held (with_slot b (p % length b.ring.items) (Some e) w).ring.items q ≡ held (put_in b.ring.items (record e { value = w })) q
held_changed {T} b p q e w at = ap (λ (i : ℕ). held (with_slot b (i % length b.ring.items) (Some e) w).ring.items q) at

pub value_here : {T : Type 0} (b : EvictingBuffer T) (p : ℕ) (v w : T) → value_at b p ≡ Some v → value_at (with_value b p w) p ≡ Some w
unfolding value_at
value_here {T} b p v w is =
    let c = changed b p v w is in
    let at = held_slot b.ring.items p c.0 c.1 in
    ap (λ (x : EvictingBuffer T). value_at x p) c.2 ∙ here c.0 (sym at.1) (some_ring b.ring.items p c.0 c.1) where
      here : (e : Entry T) → p ≡ e.position → 0 < length b.ring.items → value_at (with_slot b (p % length b.ring.items) (Some e) w) p ≡ Some w
      here e at some =
          ap (λ (o : Option (Entry T)). option_map (λ (x : Entry T). x.value) o)
          (held_changed b p p e w at ∙ ap (λ (i : ℕ). held (put_in b.ring.items (record e { value = w })) i) at ∙ held_put_same b.ring.items (record e { value = w }) some)

pub value_other : {T : Type 0} (b : EvictingBuffer T) (p q : ℕ) (v w : T) → value_at b p ≡ Some v → (q ≡ p → ⊥) → value_at (with_value b p w) q ≡ value_at b q
unfolding value_at
value_other {T} b p q v w is ne =
    let c = changed b p v w is in
    let at = held_slot b.ring.items p c.0 c.1 in
    ap (λ (x : EvictingBuffer T). value_at x q) c.2 ∙ there c.0 c.1 (sym at.1) (some_ring b.ring.items p c.0 c.1) where
      there : (e : Entry T) → held b.ring.items p ≡ Some e → p ≡ e.position → 0 < length b.ring.items → value_at (with_slot b (p % length b.ring.items) (Some e) w) q ≡ value_at b q
      there e mine at some = ap (λ (o : Option (Entry T)). option_map (λ (x : Entry T). x.value) o) (held_changed b p q e w at ∙ same) where
        not_mine : (f : Entry T) → f.position ≡ p → matching q (Some f) ≡ None
        not_mine f k = let far : eqb f.position q ≡ false = no_eq f.position q (λ l. ne (sym l ∙ k)) in ap (λ (x : Bool). cond x (Some f) None) far where
          no_eq : (a b : ℕ) → (a ≡ b → ⊥) → eqb a b ≡ false
          no_eq a b n = grind (arith, nat_tests)

        same : held (put_in b.ring.items (record e { value = w })) q ≡ held b.ring.items q
        same =
            ⊎_elim
            (λ (k : q % length b.ring.items ≡ e.position % length b.ring.items).
            ap (λ (o : Option (Entry T)). matching q o) (slot_put_same b.ring.items (record e { value = w }) q some k)
            ∙ not_mine (record e { value = w }) (sym at)
            ∙ sym
            (ap (λ (o : Option (Entry T)). matching q o) (ap (λ (i : ℕ). slice_index_or b.ring.items i None) (k ∙ ap (λ (i : ℕ). i % length b.ring.items) (sym at)) ∙ (held_slot b.ring.items p e mine).0)
            ∙ not_mine e (sym at)))
            (λ (k : q % length b.ring.items ≢ e.position % length b.ring.items). held_put_other b.ring.items (record e { value = w }) q k)
            (cases_eq (q % length b.ring.items) (e.position % length b.ring.items))
