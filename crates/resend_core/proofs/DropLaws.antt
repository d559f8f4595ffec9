-- What is left of a buffer after entries were dropped that are too old.
use Rattle.std.proofs.Common.{◌≡◌, ◌≢◌, ℕ, ◌-◌, ◌%◌, ◌<◌, ◌≤◌, Bool, true, false, cond, ltb, List, [], ◌∷◌, refl, sym, ap, ◌∙◌, subst, arith, length, max, inl, inr, ⊎_elim, ◌⊎◌, Option, Some, None}
use Rattle.std.specs.Prelude.{◌&&◌, slice_index_or, slice_set, unwrap_or, option_map}
use Rattle.std.proofs.lemmas.Bool.Decides.{nat_tests}
use Rattle.std.proofs.lemmas.List.{get_or-set_other, get_or-set_same, length-set, length-map}
use Rattle.std.proofs.lemmas.Bool.{cases_eq, cases_lt}
use Rattle.resend_core.specs.declared.ring.Entry.{Entry}
use Rattle.resend_core.specs.declared.rtx_cache_buf.EvictingBuffer.{EvictingBuffer}
use Rattle.resend_core.specs.Ring.{matching, slot_of, held, least_young, is_below, is_above, raise, raised_all, IsInPlace}
use Rattle.resend_core.specs.ResendStore.{mark_above, raised_to, IsMarked, MarksEviction}
use Rattle.resend_core.specs.EvictingBuffer.{IsBounded, Drops, DropsLowest, Sweeps, IsDone, swept}
use Rattle.resend_core.proofs.RingLaws.{held_slot, held_in, in_held, dropped_in_place, dropped_from, dropped_stays, IsYoungAt, least_at, least_le, IsIn}

-- the mark
same_some : (a b : ℕ) → Some a ≡ Some b → a ≡ b
same_some a b h = cc

pub marked_here : (o : Option ℕ) (p : ℕ) → IsMarked (raised_to o p) p
marked_here None p = (mark_above p, refl, omega arith)
marked_here (Some m) p = (max m (mark_above p), refl, omega arith)

pub mark_rises : (o : Option ℕ) (p q : ℕ) → IsMarked o q → IsMarked (raised_to o p) q
mark_rises None p q w = absurd (let not_so : None ≡ Some w.0 = w.1 in cc)
mark_rises (Some m) p q w = let same : m ≡ w.0 = same_some m w.0 w.1 in let low : mark_above q ≤ w.0 = w.2 in (max m (mark_above p), refl, omega arith)

pub mark_either : (o : Option ℕ) (p : ℕ) → (raised_to o p ≡ o) ⊎ (raised_to o p ≡ Some (mark_above p))
mark_either None p = inr refl
mark_either (Some m) p =
    ⊎_elim
    (λ (lt : m < mark_above p). let is : max m (mark_above p) ≡ mark_above p = omega arith in inr (ap (λ (n : ℕ). Some n) is))
    (λ (ge : mark_above p ≤ m). let is : max m (mark_above p) ≡ m = omega arith in inl (ap (λ (n : ℕ). Some n) is))
    (cases_lt m (mark_above p))

pub marked_below : (o : Option ℕ) (p q : ℕ) → q ≤ p → IsMarked o p → IsMarked o q
marked_below o p q le w = let low : mark_above p ≤ w.0 = w.2 in (w.0, w.1, omega arith)

-- an entry was dropped
pub some_slot : {T : Type 0} (ring : List (Option (Entry T))) (p : ℕ) (e : Entry T) → held ring p ≡ Some e → 0 < length ring
some_slot [] p e h = absurd (let not_so : None ≡ Some e = h in cc)
some_slot (o ∷ os) p e h = omega arith

length-cleared : {T : Type 0} (ring : List (Option (Entry T))) (p : ℕ) → length (slice_set ring (p % length ring) None) ≡ length ring
length-cleared ring p = length-set ring (p % length ring) None

cleared_same : {T : Type 0} (ring : List (Option (Entry T))) (p q : ℕ) → 0 < length ring → q % length ring ≡ p % length ring → slot_of (slice_set ring (p % length ring) None) q ≡ None
cleared_same ring p q some is =
    let within : p % length ring < length ring = omega arith in
    rw (length-cleared ring p, is) (get_or-set_same ring (p % length ring) None None within)

cleared_other : {T : Type 0} (ring : List (Option (Entry T))) (p q : ℕ) → q % length ring ≢ p % length ring → slot_of (slice_set ring (p % length ring) None) q ≡ slot_of ring q
cleared_other ring p q far = rw (length-cleared ring p) (get_or-set_other ring (p % length ring) (q % length ring) None None far)

cleared_from : {T : Type 0} (ring : List (Option (Entry T))) (p q : ℕ) (x : Entry T) → 0 < length ring → held (slice_set ring (p % length ring) None) q ≡ Some x → (held ring q ≡ Some x) × (q ≢ p)
cleared_from {T} ring p q x some h =
    ⊎_elim
    (λ (is : q % length ring ≡ p % length ring).
    absurd (let not_so : None ≡ Some x = sym (ap (λ (o : Option (Entry T)). matching q o) (cleared_same ring p q some is)) ∙ h in cc))
    (λ (far : q % length ring ≢ p % length ring).
    (sym (ap (λ (o : Option (Entry T)). matching q o) (cleared_other ring p q far)) ∙ h, λ at. far (ap (λ (i : ℕ). i % length ring) at)))
    (cases_eq (q % length ring) (p % length ring))

cleared_stays : {T : Type 0} (ring : List (Option (Entry T))) (p q : ℕ) (e x : Entry T) → held ring p ≡ Some e → held ring q ≡ Some x → q ≢ p → held (slice_set ring (p % length ring) None) q ≡ Some x
cleared_stays {T} ring p q e x mine h ne =
    ⊎_elim
    (λ (is : q % length ring ≡ p % length ring).
    let here = held_slot ring p e mine in
    let there = held_slot ring q x h in
    let both : Some e ≡ Some x = sym here.0 ∙ ap (λ (i : ℕ). slice_index_or ring i None) (sym is) ∙ there.0 in
    let eq : e ≡ x = cc in
    absurd (ne (sym there.1 ∙ ap (λ (y : Entry T). y.position) (sym eq) ∙ here.1)))
    (λ (far : q % length ring ≢ p % length ring). ap (λ (o : Option (Entry T)). matching q o) (cleared_other ring p q far) ∙ h)
    (cases_eq (q % length ring) (p % length ring))

cleared_in_place : {T : Type 0} (ring : List (Option (Entry T))) (p : ℕ) → 0 < length ring → IsInPlace ring → IsInPlace (slice_set ring (p % length ring) None)
cleared_in_place {T} ring p some place = λ j x h.
    rw (length-cleared ring p)
    (⊎_elim
    (λ (is : j ≡ p % length ring).
    let within : p % length ring < length ring = omega arith in
    absurd (let not_so : None ≡ Some x = sym (get_or-set_same ring (p % length ring) None None within) ∙ ap (λ (i : ℕ). slice_index_or (slice_set ring (p % length ring) None) i None) (sym is) ∙ h in cc))
    (λ (far : j ≢ p % length ring). place j x (sym (get_or-set_other ring (p % length ring) j None None far) ∙ h))
    (cases_eq j (p % length ring)))

-- nothing was dropped, or one more and then others
pub drops_none : {T : Type 0} (b : EvictingBuffer T) (now : ℕ) → IsBounded b → Drops b b now
drops_none b now h = record {
  long = refl;
  in_place = h.in_place;
  from = λ q x is. is;
  stays = λ q x is. inl is;
  marks = inl refl;
  rises = λ q w. w;
  low = h.low;
  rest = refl;
}

pub drops_bounded : {T : Type 0} (b b' : EvictingBuffer T) (now : ℕ) → IsBounded b → Drops b b' now → IsBounded b'
drops_bounded {T} b b' now h d = record {
  in_place = d.in_place;
  low = d.low;
  high = λ q x is. subst (λ (n : ℕ). q ≤ n) (sym (ap (λ (o : EvictingBuffer T). o.high) d.rest)) (h.high q x (d.from q x is));
}

pub drops_then : {T : Type 0} (a b c : EvictingBuffer T) (now : ℕ) → Drops a b now → Drops b c now → Drops a c now
drops_then {T} a b c now d e = record {
  long = e.long ∙ d.long;
  in_place = e.in_place;
  from = λ q x is. d.from q x (e.from q x is);
  stays = λ q x is. ⊎_elim
      (λ (k : held b.ring.items q ≡ Some x).
      ⊎_elim
      (λ (m : held c.ring.items q ≡ Some x). inl m)
      (λ (m : (b.age < now - x.moment) × IsMarked c.mark q). inr (subst (λ (n : ℕ). n < now - x.moment) (ap (λ (o : EvictingBuffer T). o.age) d.rest) m.0, m.1))
      (e.stays q x k))
      (λ (k : (a.age < now - x.moment) × IsMarked b.mark q). inr (k.0, e.rises q k.1))
      (d.stays q x is);
  marks = ⊎_elim
      (λ (k : c.mark ≡ b.mark).
      ⊎_elim
      (λ (m : b.mark ≡ a.mark). inl (k ∙ m))
      (λ (m : (q : ℕ) × (x : Entry T) × (held a.ring.items q ≡ Some x) × (held b.ring.items q ≡ None) × (b.mark ≡ Some (mark_above q))). inr (m.0, m.1, m.2, none_too m.0 m.3, k ∙ m.4))
      d.marks)
      (λ (k : (q : ℕ) × (x : Entry T) × (held b.ring.items q ≡ Some x) × (held c.ring.items q ≡ None) × (c.mark ≡ Some (mark_above q))). inr (k.0, k.1, d.from k.0 k.1 k.2, k.3, k.4))
      e.marks;
  rises = λ q w. e.rises q (d.rises q w);
  low = e.low;
  rest = rw (e.rest, d.rest) refl;
} where
  none_too : (q : ℕ) → held b.ring.items q ≡ None → held c.ring.items q ≡ None
  none_too q none = pick (held c.ring.items q) refl where
    pick : (o : Option (Entry T)) → held c.ring.items q ≡ o → o ≡ None
    pick None is = refl
    pick (Some x) is = absurd (let not_so : None ≡ Some x = sym none ∙ e.from q x is in cc)

-- one position further
above_low : (l q : ℕ) → l ≤ q → q ≢ l → mark_above l ≤ q
above_low l q le ne = omega arith

pub drops_gap : {T : Type 0} (b : EvictingBuffer T) (now : ℕ) → held b.ring.items b.low ≡ None → IsBounded b → Drops b (record b { low = mark_above b.low }) now
drops_gap {T} b now gap h = record {
  long = refl;
  in_place = h.in_place;
  from = λ q x is. is;
  stays = λ q x is. inl is;
  marks = inl refl;
  rises = λ q w. w;
  low = λ q x is. above_low b.low q (h.low q x is) (λ at. absurd (let not_so : None ≡ Some x = sym gap ∙ ap (λ (i : ℕ). held b.ring.items i) (sym at) ∙ is in cc));
  rest = refl;
}

pub drops_lowest : {T : Type 0} (b b' : EvictingBuffer T) (e : Entry T) (now : ℕ) → held b.ring.items b.low ≡ Some e → b.age < now - e.moment → DropsLowest b b' → IsBounded b → Drops b b' now
drops_lowest {T} b b' e now mine old d h =
    let some : 0 < length b.ring.items = some_slot b.ring.items b.low e mine in
    record {
      long = ap length d.items ∙ length-cleared b.ring.items b.low;
      in_place = rw d.items (cleared_in_place b.ring.items b.low some h.in_place);
      from = λ q x is. (was q x is).0;
      stays = λ q x is. ⊎_elim
          (λ (at : q ≡ b.low).
          let both : Some e ≡ Some x = sym mine ∙ ap (λ (i : ℕ). held b.ring.items i) (sym at) ∙ is in
          let eq : e ≡ x = cc in
          inr (subst (λ (y : Entry T). b.age < now - y.moment) eq old, subst (λ (i : ℕ). IsMarked b'.mark i) (sym at) mark))
          (λ (ne : q ≢ b.low). inl (ap (λ (r : List (Option (Entry T))). held r q) d.items ∙ cleared_stays b.ring.items b.low q e x mine is ne))
          (cases_eq q b.low);
      marks = ⊎_elim
          (λ (k : raised_to b.mark b.low ≡ b.mark). inl (ap (λ (o : EvictingBuffer T). o.mark) d.rest ∙ k))
          (λ (k : raised_to b.mark b.low ≡ Some (mark_above b.low)). inr (b.low, e, mine, gone, ap (λ (o : EvictingBuffer T). o.mark) d.rest ∙ k))
          (mark_either b.mark b.low);
      rises = λ q w. subst (λ (o : Option ℕ). IsMarked o q) (sym (ap (λ (o : EvictingBuffer T). o.mark) d.rest)) (mark_rises b.mark b.low q w);
      low = λ q x is. subst (λ (n : ℕ). n ≤ q) (sym (ap (λ (o : EvictingBuffer T). o.low) d.rest)) (above_low b.low q (h.low q x (was q x is).0) (was q x is).1);
      rest = rw d.rest refl;
    } where
      was : (q : ℕ) (x : Entry T) → held b'.ring.items q ≡ Some x → (held b.ring.items q ≡ Some x) × (q ≢ b.low)
      was q x is = cleared_from b.ring.items b.low q x (some_slot b.ring.items b.low e mine) (ap (λ (r : List (Option (Entry T))). held r q) (sym d.items) ∙ is)

      mark : IsMarked b'.mark b.low
      mark = subst (λ (o : Option ℕ). IsMarked o b.low) (sym (ap (λ (o : EvictingBuffer T). o.mark) d.rest)) (marked_here b.mark b.low)

      gone : held b'.ring.items b.low ≡ None
      gone = ap (λ (r : List (Option (Entry T))). held r b.low) d.items ∙ ap (λ (o : Option (Entry T)). matching b.low o) (cleared_same b.ring.items b.low b.low (some_slot b.ring.items b.low e mine) refl)

pub done_young : {T : Type 0} (b : EvictingBuffer T) (e : Entry T) (now : ℕ) → held b.ring.items b.low ≡ Some e → now - e.moment ≤ b.age → IsBounded b → IsDone b now
done_young {T} b e now mine young h = record {
  young = λ q x is.
      let at : e.position ≡ b.low = (held_slot b.ring.items b.low e mine).1 in
      (e, ap (λ (i : ℕ). held b.ring.items i) at ∙ mine, subst (λ (n : ℕ). n ≤ q) (sym at) (h.low q x is), young);
}

-- all slots were looked at
raise_up : {T : Type 0} (d : ℕ) (o : Option (Entry T)) (first : Option ℕ) → (p : ℕ) × (raise (Some d) o first ≡ Some p) × (d ≤ p)
raise_up d None first = (d, refl, omega arith)
raise_up {T} d (Some e) first = pick (is_below first e.position) (ltb d e.position) refl where
  pick : (b c : Bool) → ltb d e.position ≡ c → (p : ℕ) × (cond (b && c) (Some e.position) (Some d) ≡ Some p) × (d ≤ p)
  pick false c t = (d, refl, omega arith)
  pick true false t = (d, refl, omega arith)
  pick true true t = (e.position, refl, grind (arith, nat_tests))

raised_some : {T : Type 0} (d : ℕ) (slots : List (Option (Entry T))) (first : Option ℕ) → (p : ℕ) × (raised_all (Some d) slots first ≡ Some p) × (d ≤ p)
raised_some d [] first = (d, refl, omega arith)
raised_some d (o ∷ slots) first =
    let u = raise_up d o first in
    let r = raised_some u.0 slots first in
    (r.0, ap (λ (l : Option ℕ). raised_all l slots first) u.1 ∙ r.1, up d u.0 r.0 u.2 r.2) where
      up : (a b c : ℕ) → a ≤ b → b ≤ c → a ≤ c
      up a b c i j = omega arith

raise_at : {T : Type 0} (last : Option ℕ) (e : Entry T) (first : Option ℕ) → is_below first e.position ≡ true → (p : ℕ) × (raise last (Some e) first ≡ Some p) × (e.position ≤ p)
raise_at {T} last e first below = pick last (is_above last e.position) refl where
  pick : (o : Option ℕ) (c : Bool) → is_above o e.position ≡ c → (p : ℕ) × (cond (is_below first e.position && is_above o e.position) (Some e.position) o ≡ Some p) × (e.position ≤ p)
  pick None c t = (e.position, ap (λ (b : Bool). cond (b && true) (Some e.position) None) below, omega arith)
  pick (Some d) true t = (e.position, ap (λ (b : Bool). cond (b && ltb d e.position) (Some e.position) (Some d)) below ∙ ap (λ (b : Bool). cond b (Some e.position) (Some d)) t, omega arith)
  pick (Some d) false t =
      let le : e.position ≤ d = grind (arith, nat_tests) in
      (d, ap (λ (b : Bool). cond (b && ltb d e.position) (Some e.position) (Some d)) below ∙ ap (λ (b : Bool). cond b (Some e.position) (Some d)) t, le)

raised_above : {T : Type 0} (last : Option ℕ) (slots : List (Option (Entry T))) (first : Option ℕ) (x : Entry T) → IsIn x slots → is_below first x.position ≡ true → (p : ℕ) × (raised_all last slots first ≡ Some p) × (x.position ≤ p)
raised_above last [] first x inx below = absurd inx
raised_above last (o ∷ slots) first x (inr inx) below = raised_above (raise last o first) slots first x inx below
raised_above {T} last (o ∷ slots) first x (inl is) below =
    let at = raise_at last x first below in
    let r = raised_some at.0 slots first in
    (r.0, ap (λ (s : Option (Entry T)). raised_all (raise last s first) slots first) is ∙ ap (λ (l : Option ℕ). raised_all l slots first) at.1 ∙ r.1, up x.position at.0 r.0 at.2 r.2) where
      up : (a b c : ℕ) → a ≤ b → b ≤ c → a ≤ c
      up a b c i j = omega arith

-- an entry below the first
abbrev pub IsBelowAt : {T : Type 0} → List (Option (Entry T)) → Option ℕ → ℕ → Type 0
IsBelowAt {T} slots first p = (e : Entry T) × IsIn e slots × (e.position ≡ p) × (is_below first e.position ≡ true)

raise_is : {T : Type 0} (last : Option ℕ) (o : Option (Entry T)) (slots : List (Option (Entry T))) (first : Option ℕ) (p : ℕ) → raise last o first ≡ Some p → (last ≡ Some p) ⊎ IsBelowAt (o ∷ slots) first p
raise_is last None slots first p h = inl h
raise_is {T} last (Some e) slots first p h = pick (is_below first e.position) (is_above last e.position) refl h where
  pick : (b c : Bool) → is_below first e.position ≡ b → cond (b && c) (Some e.position) last ≡ Some p → (last ≡ Some p) ⊎ IsBelowAt (Some e ∷ slots) first p
  pick false c t k = inl k
  pick true false t k = inl k
  pick true true t k = inr (e, inl refl, same_some e.position p k, t)

raised_from : {T : Type 0} (last : Option ℕ) (slots : List (Option (Entry T))) (first : Option ℕ) (p : ℕ) → raised_all last slots first ≡ Some p → (last ≡ Some p) ⊎ IsBelowAt slots first p
raised_from last [] first p h = inl h
raised_from last (o ∷ slots) first p h =
    ⊎_elim
    (λ (k : raise last o first ≡ Some p). raise_is last o slots first p k)
    (λ (k : IsBelowAt slots first p). inr (k.0, inr k.1, k.2, k.3))
    (raised_from (raise last o first) slots first p h)

-- what is held is not below the first, or goes
below_some : {T : Type 0} (now age : ℕ) (slots : List (Option (Entry T))) (e : Entry T) → IsIn e slots → is_below (least_young now age None slots) e.position ≡ true → age < now - e.moment
below_some {T} now age slots e ine below =
    ⊎_elim
    (λ (old : age < now - e.moment). old)
    (λ (young : now - e.moment ≤ age).
    let c = least_le now age None slots e ine young in
    absurd (never c.0 e.position c.2 (sym (ap (λ (o : Option ℕ). is_below o e.position) c.1) ∙ below)))
    (cases_lt age (now - e.moment)) where
      never : (c p : ℕ) → c ≤ p → ltb p c ≡ true → ⊥
      never c p i j = grind (arith, nat_tests)

pub sweep_drops : {T : Type 0} (b b' : EvictingBuffer T) (now : ℕ) → Sweeps b b' now → IsBounded b → Drops b b' now
sweep_drops {T} b b' now s h =
    record {
      long = rw (s.items, length-map) refl;
      in_place = rw s.items (dropped_in_place (least_young now b.age None b.ring.items) b.ring.items h.in_place);
      from = λ q x is. (was q x is).0;
      stays = λ q x is. keep q x is (is_below (least_young now b.age None b.ring.items) q) refl;
      marks = mark_from (raised_all None b.ring.items (least_young now b.age None b.ring.items)) refl;
      rises = λ q w. subst (λ (o : Option ℕ). IsMarked o q) (sym mark_is) (rise (raised_all None b.ring.items (least_young now b.age None b.ring.items)) q w);
      low = λ q x is. subst (λ (n : ℕ). n ≤ q) (sym (ap (λ (o : EvictingBuffer T). o.low) s.rest)) (low_at (least_young now b.age None b.ring.items) q x (was q x is));
      rest = rw s.rest refl;
    } where
      mark_is : b'.mark ≡ swept b.mark (raised_all None b.ring.items (least_young now b.age None b.ring.items))
      mark_is = ap (λ (o : EvictingBuffer T). o.mark) s.rest

      was : (q : ℕ) (x : Entry T) → held b'.ring.items q ≡ Some x → (held b.ring.items q ≡ Some x) × (is_below (least_young now b.age None b.ring.items) q ≡ false)
      was q x is = dropped_from (least_young now b.age None b.ring.items) b.ring.items q x (ap (λ (r : List (Option (Entry T))). held r q) (sym s.items) ∙ is)

      rise : (o : Option ℕ) (q : ℕ) → IsMarked b.mark q → IsMarked (swept b.mark o) q
      rise None q w = w
      rise (Some p) q w = mark_rises b.mark p q w

      low_at : (o : Option ℕ) (q : ℕ) (x : Entry T) → (held b.ring.items q ≡ Some x) × (is_below o q ≡ false) → unwrap_or o b.low ≤ q
      low_at None q x w = h.low q x w.0
      low_at (Some c) q x w = let test : ltb q c ≡ false = w.1 in grind (arith, nat_tests)

      gone : (q : ℕ) → is_below (least_young now b.age None b.ring.items) q ≡ true → held b'.ring.items q ≡ None
      gone q t = pick (held b'.ring.items q) refl where
        pick : (o : Option (Entry T)) → held b'.ring.items q ≡ o → o ≡ None
        pick None is = refl
        pick (Some x) is = absurd (let not_so : true ≡ false = sym t ∙ (was q x is).1 in cc)

      keep : (q : ℕ) (x : Entry T) → held b.ring.items q ≡ Some x → (c : Bool) → is_below (least_young now b.age None b.ring.items) q ≡ c → (held b'.ring.items q ≡ Some x) ⊎ ((b.age < now - x.moment) × IsMarked b'.mark q)
      keep q x is false t = inl (ap (λ (r : List (Option (Entry T))). held r q) s.items ∙ dropped_stays (least_young now b.age None b.ring.items) b.ring.items q x is t)
      keep q x is true t =
          let at : x.position ≡ q = (held_slot b.ring.items q x is).1 in
          let inx : IsIn x b.ring.items = held_in b.ring.items q x is in
          let below : is_below (least_young now b.age None b.ring.items) x.position ≡ true = ap (λ (i : ℕ). is_below (least_young now b.age None b.ring.items) i) at ∙ t in
          let r = raised_above None b.ring.items (least_young now b.age None b.ring.items) x inx below in
          inr (
            below_some now b.age b.ring.items x inx below,
            subst (λ (o : Option ℕ). IsMarked o q) (sym mark_is)
                (subst (λ (o : Option ℕ). IsMarked (swept b.mark o) q) (sym r.1) (marked_below (raised_to b.mark r.0) r.0 q (subst (λ (i : ℕ). i ≤ r.0) at r.2) (marked_here b.mark r.0))),
          )

      mark_from : (o : Option ℕ) → raised_all None b.ring.items (least_young now b.age None b.ring.items) ≡ o
          → (b'.mark ≡ b.mark) ⊎ ((q : ℕ) × (x : Entry T) × (held b.ring.items q ≡ Some x) × (held b'.ring.items q ≡ None) × (b'.mark ≡ Some (mark_above q)))
      mark_from None is = inl (mark_is ∙ ap (λ (o : Option ℕ). swept b.mark o) is)
      mark_from (Some p) is =
          ⊎_elim
          (λ (none : None ≡ Some p). absurd (let not_so : None ≡ Some p = none in cc))
          (λ (k : IsBelowAt b.ring.items (least_young now b.age None b.ring.items) p).
          ⊎_elim
          (λ (m : raised_to b.mark p ≡ b.mark). inl (mark_is ∙ ap (λ (o : Option ℕ). swept b.mark o) is ∙ m))
          (λ (m : raised_to b.mark p ≡ Some (mark_above p)).
          inr (
            p,
            k.0,
            ap (λ (i : ℕ). held b.ring.items i) (sym k.2) ∙ in_held b.ring.items k.0 h.in_place k.1,
            gone p (ap (λ (i : ℕ). is_below (least_young now b.age None b.ring.items) i) (sym k.2) ∙ k.3),
            mark_is ∙ ap (λ (o : Option ℕ). swept b.mark o) is ∙ m,
          ))
          (mark_either b.mark p))
          (raised_from None b.ring.items (least_young now b.age None b.ring.items) p is)

pub sweep_done : {T : Type 0} (b b' : EvictingBuffer T) (now : ℕ) → Sweeps b b' now → IsBounded b → IsDone b' now
sweep_done {T} b b' now s h = record { young = λ q x is. pick (least_young now b.age None b.ring.items) refl q x (was q x is) } where
  was : (q : ℕ) (x : Entry T) → held b'.ring.items q ≡ Some x → (held b.ring.items q ≡ Some x) × (is_below (least_young now b.age None b.ring.items) q ≡ false)
  was q x is = dropped_from (least_young now b.age None b.ring.items) b.ring.items q x (ap (λ (r : List (Option (Entry T))). held r q) (sym s.items) ∙ is)

  pick : (o : Option ℕ) → least_young now b.age None b.ring.items ≡ o → (q : ℕ) (x : Entry T) → (held b.ring.items q ≡ Some x) × (is_below (least_young now b.age None b.ring.items) q ≡ false)
      → (y : Entry T) × (held b'.ring.items y.position ≡ Some y) × (y.position ≤ q) × (now - y.moment ≤ b'.age)
  pick None is q x w = absurd (let not_so : true ≡ false = sym (ap (λ (o : Option ℕ). is_below o q) is) ∙ w.1 in cc)
  pick (Some c) is q x w =
      ⊎_elim
      (λ (none : None ≡ Some c). absurd (let not_so : None ≡ Some c = none in cc))
      (λ (y : IsYoungAt now b.age b.ring.items c).
      let test : ltb q c ≡ false = sym (ap (λ (o : Option ℕ). is_below o q) is) ∙ w.1 in
      let le : c ≤ q = grind (arith, nat_tests) in (
        y.0,
        ap (λ (r : List (Option (Entry T))). held r y.0.position) s.items
            ∙ dropped_stays (least_young now b.age None b.ring.items) b.ring.items y.0.position y.0 (in_held b.ring.items y.0 h.in_place y.1)
            (ap (λ (o : Option ℕ). is_below o y.0.position) is ∙ not_below y.0.position c y.3),
        subst (λ (n : ℕ). n ≤ q) (sym y.3) le,
        subst (λ (n : ℕ). now - y.0.moment ≤ n) (sym (ap (λ (o : EvictingBuffer T). o.age) s.rest)) y.2,
      ))
      (least_at now b.age None b.ring.items c is) where
        not_below : (q c : ℕ) → q ≡ c → ltb q c ≡ false
        not_below q c e = grind (arith, nat_tests)

-- what a mark says of the values that went
value_none : {T : Type 0} (o : Option (Entry T)) → option_map (λ (e : Entry T). e.value) o ≡ None → o ≡ None
value_none None h = refl
value_none (Some e) h = absurd (let not_so : Some e.value ≡ None = h in cc)

value_some : {T : Type 0} (o : Option (Entry T)) (v : T) → option_map (λ (e : Entry T). e.value) o ≡ Some v → (e : Entry T) × (o ≡ Some e)
value_some None v h = absurd (let not_so : None ≡ Some v = h in cc)
value_some (Some e) v h = (e, refl)

pub marks_eviction : {T : Type 0} (b b' : EvictingBuffer T) (now : ℕ) → Drops b b' now
    → MarksEviction (λ (q : ℕ). option_map (λ (e : Entry T). e.value) (held b.ring.items q)) (λ (q : ℕ). option_map (λ (e : Entry T). e.value) (held b'.ring.items q)) b.mark b'.mark
marks_eviction {T} b b' now d = record {
  above = λ q v was is.
      let x = value_some (held b.ring.items q) v was in
      ⊎_elim
      (λ (k : held b'.ring.items q ≡ Some x.0). absurd (let not_so : None ≡ Some x.0 = sym (value_none (held b'.ring.items q) is) ∙ k in cc))
      (λ (k : (b.age < now - x.0.moment) × IsMarked b'.mark q). k.1)
      (d.stays q x.0 x.1);
  either = ⊎_elim
      (λ (k : b'.mark ≡ b.mark). inl k)
      (λ (k : (q : ℕ) × (x : Entry T) × (held b.ring.items q ≡ Some x) × (held b'.ring.items q ≡ None) × (b'.mark ≡ Some (mark_above q))).
      inr (k.0, k.1.value, ap (λ (o : Option (Entry T)). option_map (λ (e : Entry T). e.value) o) k.2, ap (λ (o : Option (Entry T)). option_map (λ (e : Entry T). e.value) o) k.3, k.4))
      d.marks;
}
