-- What a buffer stands for after each step.
use Rattle.std.proofs.Common.{◌≡◌, ◌≢◌, ℕ, ◌+◌, ◌-◌, ◌*◌, ◌/◌, ◌%◌, ◌<◌, ◌≤◌, Bool, true, false, cond, ltb, List, [], ◌∷◌, ◌++◌, refl, sym, ap, ◌∙◌, subst, arith, length, replicate, map, max, min, inl, inr, ⊎_elim, ◌⊎◌, Option, Some, None}
use Rattle.std.specs.Prelude.{not, slice_index_or, unwrap_or}
use Rattle.std.proofs.lemmas.Bool.Decides.{nat_tests}
use Rattle.std.proofs.lemmas.List.{length-replicate, length-map}
use Rattle.std.proofs.lemmas.Bool.{cases_eq, cases_lt}
use Rattle.std.proofs.Math.Nat.{mul-le-mul_left}
use Rattle.resend_core.specs.declared.ring.Entry.{Entry}
use Rattle.resend_core.specs.declared.rtx_cache_buf.EvictingBuffer.{EvictingBuffer}
use Rattle.resend_core.specs.Ring.{slot_of, held, yields_to, has_room, put_in, settled_all, kept_from, IsInPlace}
use Rattle.resend_core.specs.ResendStore.{Event, pushed, evicted, Past, with_event, emptied, size_of, greatest_by, last_under, stored_at, stored_position, greatest_stored, after_pushed, next_position, evicted_at, latest_eviction, IsRising, MustStore, MayGo, mark_above, IsMarked, is_under, IsAtLeast, MarksPush}
use Rattle.resend_core.specs.EvictingBuffer.{StandsFor, IsReady, Grows, Spans, Places, lowered, IsBounded, Drops, IsDone, IsPushed, takes_push}
use Rattle.resend_core.proofs.RingLaws.{held_slot, held_in, in_held, slot_held, held_put_same, held_put_other, held_put_from, in_place_put, length-put, all_length, IsOutdone, grown, grown_from, grown_in_place, dropped_in_place, dropped_from, IsIn}
use Rattle.resend_core.proofs.EventsAdded.{may_go_more, greatest_by-push, greatest_by_grows, last_by-push, under_same, under_other, under_ignored, under_evicted, rising_front, under_stored, under_next, rising_order}

-- of two numbers with one remainder the greater is the divisor or more above
step_up : (n a b : ℕ) → 0 < n → a < b → a % n ≡ b % n → a + n ≤ b
step_up n a b some lt same =
    ⊎_elim
    (λ (more : a / n < b / n). let times : n * (a / n + 1) ≤ n * (b / n) = mul-le-mul_left n (omega arith) in omega arith)
    (λ (less : b / n ≤ a / n). let times : n * (b / n) ≤ n * (a / n) = mul-le-mul_left n less in absurd (omega arith))
    (cases_lt (a / n) (b / n))

-- what is held is that of an event
held_le : {T : Type 0} (b : EvictingBuffer T) (past : Past T) (f : Entry T) → StandsFor b past → IsIn f b.ring.items → f.position ≤ greatest_stored past.events
held_le b past f h inb = under_stored f.position past.events (f.moment, f.value) (h.true_to f.position f (in_held b.ring.items f h.in_place inb))

held_next : {T : Type 0} (b : EvictingBuffer T) (past : Past T) (f : Entry T) → StandsFor b past → IsIn f b.ring.items → f.position + 1 ≤ next_position past.events
held_next b past f h inb = under_next f.position past.events (f.moment, f.value) (h.true_to f.position f (in_held b.ring.items f h.in_place inb))

-- a ring that grew
grown_keeps : {T : Type 0} (b : EvictingBuffer T) (past : Past T) (p s : ℕ) → 0 < s → Spans b p s ⊎ (s ≡ b.size) → StandsFor b past
    → (q : ℕ) (x : Entry T) → held b.ring.items q ≡ Some x → (held (settled_all (replicate s None) b.ring.items) q ≡ Some x) ⊎ (q + size_of past ≤ greatest_stored past.events)
grown_keeps {T} b past p s some apart h q x is =
    ⊎_elim (λ (k : held (settled_all (replicate s None) b.ring.items) q ≡ Some x). inl k) (λ (w : IsOutdone s b.ring.items q). inr (far w)) (grown s b.ring.items some h.in_place q x is) where
      far : IsOutdone s b.ring.items q → q + size_of past ≤ greatest_stored past.events
      far w =
          ⊎_elim
          (λ (c : Spans b p s).
          absurd (never q w.0.position p s b.low b.high (step_up s q w.0.position some w.2 w.3) c (h.low q x is) (h.high w.0.position w.0 (in_held b.ring.items w.0 h.in_place w.1))))
          (λ (e : s ≡ b.size). reach q s w.0.position (size_of past) (greatest_stored past.events) (step_up s q w.0.position some w.2 w.3) (e ∙ h.sized) (held_le b past w.0 h w.1))
          apart where
            never : (q r p s l g : ℕ) → q + s ≤ r → max g p - min l p < s → l ≤ q → r ≤ g → ⊥
            never q r p s l g i j k m = omega arith

            reach : (a s c n g : ℕ) → a + s ≤ c → s ≡ n → c ≤ g → a + n ≤ g
            reach a s c n g h e k = omega arith

pub grown_stands : {T : Type 0} (b b' : EvictingBuffer T) (past : Past T) (p : ℕ) → 0 < length b.ring.items → Grows b b' p → StandsFor b past → StandsFor b' past
grown_stands {T} b b' past p room g h =
    let some : 0 < g.slots = omega (arith, g.above) in
    record {
      ages = ap (λ (o : EvictingBuffer T). o.age) g.rest ∙ h.ages;
      sized = ap (λ (o : EvictingBuffer T). o.size) g.rest ∙ h.sized;
      roomy = λ r. rw (g.items, all_length (replicate g.slots None) b.ring.items, length-replicate) some;
      timed = ap (λ (o : EvictingBuffer T). o.timeout) g.rest ∙ h.timed;
      in_place = rw g.items (grown_in_place g.slots b.ring.items some);
      true_to = λ q e is. h.true_to q e (grown_from g.slots b.ring.items some h.in_place q e (ap (λ (r : List (Option (Entry T))). held r q) (sym g.items) ∙ is));
      keeps = λ q t v is. ⊎_elim
          (λ (k : held b.ring.items q ≡ Some (record { position = q; moment = t; value = v })).
          ⊎_elim
          (λ (w : held (settled_all (replicate g.slots None) b.ring.items) q ≡ Some (record { position = q; moment = t; value = v })). inl (ap (λ (r : List (Option (Entry T))). held r q) g.items ∙ w))
          (λ (w : q + size_of past ≤ greatest_stored past.events). inr (inr w))
          (grown_keeps b past p g.slots some g.apart h q (record { position = q; moment = t; value = v }) k))
          (λ (w : MayGo past q t). inr w)
          (h.keeps q t v is);
      newest = ap (λ (o : EvictingBuffer T). o.last) g.rest ∙ h.newest;
      marked = λ m is. h.marked m (sym (ap (λ (o : EvictingBuffer T). o.mark) g.rest) ∙ is);
      inert = λ z. absurd (none_above (length b.ring.items) (h.inert z) room);
      low = λ q e is. subst (λ (n : ℕ). n ≤ q) (sym (ap (λ (o : EvictingBuffer T). o.low) g.rest)) (h.low q e (was q e is));
      high = λ q e is. subst (λ (n : ℕ). q ≤ n) (sym (ap (λ (o : EvictingBuffer T). o.high) g.rest)) (h.high q e (was q e is));
      young = λ r q e is. h.young r q e (grown_from g.slots b.ring.items some h.in_place q e (ap (λ (k : List (Option (Entry T))). held k q) (sym g.items) ∙ is));
    } where
      none_above : (n : ℕ) → n ≡ 0 → 0 < n → ⊥
      none_above n e lt = omega arith

      was : (q : ℕ) (e : Entry T) → held b'.ring.items q ≡ Some e → held b.ring.items q ≡ Some e
      was q e is = grown_from g.slots b.ring.items (omega (arith, g.above)) h.in_place q e (ap (λ (r : List (Option (Entry T))). held r q) (sym g.items) ∙ is)

grown_long : {T : Type 0} (b b' : EvictingBuffer T) (p : ℕ) (g : Grows b b' p) → length b'.ring.items ≡ g.slots
grown_long b b' p g = rw (g.items, all_length (replicate g.slots None) b.ring.items, length-replicate) refl

pub grown_roomy : {T : Type 0} (b b' : EvictingBuffer T) (p : ℕ) → Grows b b' p → 0 < length b'.ring.items
grown_roomy b b' p g = rw (grown_long b b' p g) (omega (arith, g.above))

pub grown_ready : {T : Type 0} (b b' : EvictingBuffer T) (past : Past T) (p : ℕ) → Grows b b' p → StandsFor b past → IsReady b' p
grown_ready {T} b b' past p g h = λ f is.
    let some : 0 < g.slots = omega (arith, g.above) in
    ⊎_elim
    (λ (c : Spans b p g.slots). inl (free f is some c))
    (λ (e : g.slots ≡ b.size). inr (le b.size g.slots b'.size (length b'.ring.items) e (ap (λ (o : EvictingBuffer T). o.size) g.rest) (grown_long b b' p g)))
    g.apart where
      le : (a s c n : ℕ) → s ≡ a → c ≡ a → n ≡ s → c ≤ n
      le a s c n e f k = omega arith

      free : (f : Entry T) → slot_of b'.ring.items p ≡ Some f → 0 < g.slots → Spans b p g.slots → f.position ≡ p
      free f is some c =
          let place : IsInPlace b'.ring.items = rw g.items (grown_in_place g.slots b.ring.items some) in
          let rest : f.position % length b'.ring.items ≡ p % length b'.ring.items = place (p % length b'.ring.items) f is in
          let there : slot_of b'.ring.items f.position ≡ Some f = ap (λ (i : ℕ). slice_index_or b'.ring.items i None) rest ∙ is in
          let new : held b'.ring.items f.position ≡ Some f = slot_held b'.ring.items f there in
          let old : held b.ring.items f.position ≡ Some f = grown_from g.slots b.ring.items some h.in_place f.position f (ap (λ (r : List (Option (Entry T))). held r f.position) (sym g.items) ∙ new) in
          let at : f.position % g.slots ≡ p % g.slots = ap (λ (n : ℕ). f.position % n) (sym (grown_long b b' p g)) ∙ rest ∙ ap (λ (n : ℕ). p % n) (grown_long b b' p g) in
          let low : b.low ≤ f.position = h.low f.position f old in
          let high : f.position ≤ b.high = h.high f.position f old in
          ⊎_elim
          (λ (lt : f.position < p). absurd (under f.position p g.slots b.low b.high (step_up g.slots f.position p some lt at) c low))
          (λ (ge : p ≤ f.position).
          ⊎_elim
          (λ (lt : p < f.position). absurd (over f.position p g.slots b.low b.high (step_up g.slots p f.position some lt (sym at)) c high))
          (λ (le : f.position ≤ p). both f.position p ge le)
          (cases_lt p f.position))
          (cases_lt f.position p) where
            both : (a c : ℕ) → c ≤ a → a ≤ c → a ≡ c
            both a c i j = omega arith

            under : (f p s l g : ℕ) → f + s ≤ p → max g p - min l p < s → l ≤ f → ⊥
            under f p s l g i j k = omega arith

            over : (f p s l g : ℕ) → p + s ≤ f → max g p - min l p < s → f ≤ g → ⊥
            over f p s l g i j k = omega arith

-- a push that is not stored
pub ignored_stands : {T : Type 0} (b : EvictingBuffer T) (past : Past T) (p t : ℕ) (v : T) → StandsFor b past → StandsFor b (with_event past (pushed p t v false))
ignored_stands {T} b past p t v h =
    let e : Event T = pushed p t v false in
    record {
      ages = h.ages;
      sized = h.sized;
      roomy = h.roomy;
      timed = h.timed ∙ same evicted_at refl;
      in_place = h.in_place;
      true_to = λ q x is. under_ignored past.events p t v q ∙ h.true_to q x is;
      keeps = λ q u w is. ⊎_elim
          (λ (k : held b.ring.items q ≡ Some (record { position = q; moment = u; value = w })). inl k)
          (λ (k : MayGo past q u). inr (may_go_more past e q u k))
          (h.keeps q u w (sym (under_ignored past.events p t v q) ∙ is));
      newest = h.newest ∙ sym (last_by-push stored_at past.events e);
      marked = λ m is. le m (next_position past.events) (next_position (past.events ++ e ∷ [])) (h.marked m is) (greatest_by_grows after_pushed past.events e);
      inert = h.inert;
      low = h.low;
      high = h.high;
      young = λ r q x is. subst (λ (n : ℕ). n ≤ x.moment + past.age) (same evicted_at refl) (h.young (rising_front past.events e r) q x is);
    } where
      le : (a c d : ℕ) → a ≤ c → c ≤ d → a ≤ d
      le a c d h k = omega arith

      same : (f : Event T → ℕ) → f (pushed p t v false) ≡ 0 → greatest_by f past.events ≡ greatest_by f (past.events ++ pushed p t v false ∷ [])
      same f z = omega (arith, greatest_by-push f past.events (pushed p t v false))

-- a push that is stored
pub placed_stands : {T : Type 0} (b b' : EvictingBuffer T) (past : Past T) (e : Entry T) → Places b b' e → has_room b.ring.items e.position ≡ true → IsReady b e.position → 0 < length b.ring.items → b.timeout ≤ e.moment
    → StandsFor b past → StandsFor b' (with_event past (pushed e.position e.moment e.value true))
placed_stands {T} b b' past e w room ready some timely h =
    record {
      ages = ap (λ (o : EvictingBuffer T). o.age) w.rest ∙ h.ages;
      sized = ap (λ (o : EvictingBuffer T). o.size) w.rest ∙ h.sized;
      roomy = λ r. rw (w.items, length-put b.ring.items e) some;
      timed = ap (λ (o : EvictingBuffer T). o.timeout) w.rest ∙ h.timed ∙ late;
      in_place = rw w.items (in_place_put b.ring.items e some h.in_place);
      true_to = λ q x is. true_at q x (ap (λ (r : List (Option (Entry T))). held r q) (sym w.items) ∙ is);
      keeps = λ q t v is. keeps_at q t v is;
      newest = ap (λ (o : EvictingBuffer T). o.last) w.rest ∙ sym (last_by-push stored_at past.events ev);
      marked = λ m is. mark_at m (sym (ap (λ (o : EvictingBuffer T). o.mark) w.rest) ∙ is);
      inert = λ z. absurd (none_above (length b.ring.items) (h.inert z) some);
      low = λ q x is. subst (λ (n : ℕ). n ≤ q) (sym (ap (λ (o : EvictingBuffer T). o.low) w.rest)) (low_at q x (ap (λ (r : List (Option (Entry T))). held r q) (sym w.items) ∙ is));
      high = λ q x is. subst (λ (n : ℕ). q ≤ n) (sym (ap (λ (o : EvictingBuffer T). o.high) w.rest)) (high_at q x (ap (λ (r : List (Option (Entry T))). held r q) (sym w.items) ∙ is));
      young = λ r q x is. subst (λ (n : ℕ). n ≤ x.moment + past.age) late (young_at r q x (ap (λ (k : List (Option (Entry T))). held k q) (sym w.items) ∙ is));
    } where
      ev : Event T
      ev = pushed e.position e.moment e.value true

      none_above : (n : ℕ) → n ≡ 0 → 0 < n → ⊥
      none_above n i lt = omega arith

      low_at : (q : ℕ) (x : Entry T) → held (put_in b.ring.items e) q ≡ Some x → lowered b e.position ≤ q
      low_at q x is = pick (ltb b.high b.low) refl where
        pick : (c : Bool) → ltb b.high b.low ≡ c → cond c e.position (min b.low e.position) ≤ q
        pick c t =
            ⊎_elim
            (λ (k : (e ≡ x) × (e.position ≡ q)). mine c k.1)
            (λ (k : held b.ring.items q ≡ Some x). theirs c t (h.low q x k) (h.high q x k))
            (held_put_from b.ring.items e q x some is) where
              mine : (c : Bool) → e.position ≡ q → cond c e.position (min b.low e.position) ≤ q
              mine true at = omega arith
              mine false at = omega arith

              theirs : (c : Bool) → ltb b.high b.low ≡ c → b.low ≤ q → q ≤ b.high → cond c e.position (min b.low e.position) ≤ q
              theirs true t i j = absurd (grind (arith, nat_tests))
              theirs false t i j = omega arith

      high_at : (q : ℕ) (x : Entry T) → held (put_in b.ring.items e) q ≡ Some x → q ≤ max b.high e.position
      high_at q x is =
          ⊎_elim
          (λ (k : (e ≡ x) × (e.position ≡ q)). at_most q e.position b.high k.1)
          (λ (k : held b.ring.items q ≡ Some x). below q e.position b.high (h.high q x k))
          (held_put_from b.ring.items e q x some is) where
            at_most : (q p m : ℕ) → p ≡ q → q ≤ max m p
            at_most q p m i = omega arith

            below : (q p m : ℕ) → q ≤ m → q ≤ max m p
            below q p m i = omega arith

      late : latest_eviction past.events ≡ latest_eviction (past.events ++ pushed e.position e.moment e.value true ∷ [])
      late = omega (arith, greatest_by-push evicted_at past.events (pushed e.position e.moment e.value true))

      is_e : (q : ℕ) (x : Entry T) → q ≡ e.position → held (put_in b.ring.items e) q ≡ Some x → x ≡ e
      is_e q x at is =
          let both : Some e ≡ Some x = sym (held_put_same b.ring.items e some) ∙ ap (λ (i : ℕ). held (put_in b.ring.items e) i) (sym at) ∙ is in
          cc

      older : (q : ℕ) (x : Entry T) → q ≢ e.position → held (put_in b.ring.items e) q ≡ Some x → held b.ring.items q ≡ Some x
      older q x ne is = ⊎_elim (λ (k : (e ≡ x) × (e.position ≡ q)). absurd (ne (sym k.1))) (λ (k : held b.ring.items q ≡ Some x). k) (held_put_from b.ring.items e q x some is)

      true_at : (q : ℕ) (x : Entry T) → held (put_in b.ring.items e) q ≡ Some x → last_under q (past.events ++ pushed e.position e.moment e.value true ∷ []) ≡ Some (x.moment, x.value)
      true_at q x is =
          ⊎_elim
          (λ (at : q ≡ e.position).
          ap (λ (i : ℕ). last_under i (past.events ++ pushed e.position e.moment e.value true ∷ [])) at
          ∙ under_same past.events e.position e.moment e.value ∙ ap (λ (y : Entry T). Some (y.moment, y.value)) (sym (is_e q x at is)))
          (λ (ne : q ≢ e.position). under_other past.events e.position e.moment e.value q ne ∙ h.true_to q x (older q x ne is))
          (cases_eq q e.position)

      young_at : IsRising (past.events ++ pushed e.position e.moment e.value true ∷ []) → (q : ℕ) (x : Entry T) → held (put_in b.ring.items e) q ≡ Some x → latest_eviction past.events ≤ x.moment + past.age
      young_at r q x is =
          ⊎_elim
          (λ (at : q ≡ e.position). new_young b.timeout (latest_eviction past.events) e.moment x.moment past.age h.timed timely (ap (λ (y : Entry T). y.moment) (is_e q x at is)))
          (λ (ne : q ≢ e.position). h.young (rising_front past.events (pushed e.position e.moment e.value true) r) q x (older q x ne is))
          (cases_eq q e.position) where
            new_young : (a l m n g : ℕ) → a ≡ l → a ≤ m → n ≡ m → l ≤ n + g
            new_young a l m n g i j k = omega arith

      mark_at : (m : ℕ) → Some (unwrap_or b.mark e.position) ≡ Some m → m ≤ next_position (past.events ++ pushed e.position e.moment e.value true ∷ [])
      mark_at m is = pick b.mark refl (some_is (unwrap_or b.mark e.position) m is) where
        some_is : (a c : ℕ) → Some a ≡ Some c → a ≡ c
        some_is a c k = cc

        grew : next_position (past.events ++ pushed e.position e.moment e.value true ∷ []) ≡ max (next_position past.events) (e.position + 1)
        grew = greatest_by-push after_pushed past.events (pushed e.position e.moment e.value true)

        pick : (o : Option ℕ) → b.mark ≡ o → unwrap_or o e.position ≡ m → m ≤ next_position (past.events ++ pushed e.position e.moment e.value true ∷ [])
        pick None k l = omega (arith, grew)
        pick (Some n) k l = let low : n ≤ next_position past.events = h.marked n k in omega (arith, grew)

      keeps_at : (q t : ℕ) (v : T) → last_under q (past.events ++ pushed e.position e.moment e.value true ∷ []) ≡ Some (t, v)
          → (held b'.ring.items q ≡ Some (record { position = q; moment = t; value = v })) ⊎ MayGo (with_event past (pushed e.position e.moment e.value true)) q t
      keeps_at q t v is =
          ⊎_elim
          (λ (at : q ≡ e.position).
          let pair : Some (e.moment, e.value) ≡ Some (t, v) = sym (under_same past.events e.position e.moment e.value) ∙ ap (λ (i : ℕ). last_under i (past.events ++ pushed e.position e.moment e.value true ∷ [])) (sym at) ∙ is in
          let inside : ◌≡◌ {A = ℕ × T} (e.moment, e.value) (t, v) = cc in
          let entry : e ≡ record { position = q; moment = t; value = v } = same_entry q t v (sym at) (ap (λ (y : ℕ × T). y.0) inside) (ap (λ (y : ℕ × T). y.1) inside) in
          inl (ap (λ (r : List (Option (Entry T))). held r q) w.items ∙ ap (λ (i : ℕ). held (put_in b.ring.items e) i) at ∙ held_put_same b.ring.items e some ∙ ap (λ (y : Entry T). Some y) entry))
          (λ (ne : q ≢ e.position).
          ⊎_elim
          (λ (k : held b.ring.items q ≡ Some (record { position = q; moment = t; value = v })). stays q t v ne k)
          (λ (k : MayGo past q t). inr (may_go_more past (pushed e.position e.moment e.value true) q t k))
          (h.keeps q t v (sym (under_other past.events e.position e.moment e.value q ne) ∙ is)))
          (cases_eq q e.position) where
            same_entry : (q t : ℕ) (v : T) → e.position ≡ q → e.moment ≡ t → e.value ≡ v → e ≡ record { position = q; moment = t; value = v }
            same_entry q t v a c d = rw (← a, ← c, ← d) refl

            stays : (q t : ℕ) (v : T) → q ≢ e.position → held b.ring.items q ≡ Some (record { position = q; moment = t; value = v })
                → (held b'.ring.items q ≡ Some (record { position = q; moment = t; value = v })) ⊎ MayGo (with_event past (pushed e.position e.moment e.value true)) q t
            stays q t v ne k =
                ⊎_elim
                (λ (same : q % length b.ring.items ≡ e.position % length b.ring.items). inr (inr (gone q (record { position = q; moment = t; value = v }) ne k refl same)))
                (λ (far : q % length b.ring.items ≢ e.position % length b.ring.items). inl (ap (λ (r : List (Option (Entry T))). held r q) w.items ∙ held_put_other b.ring.items e q far ∙ k))
                (cases_eq (q % length b.ring.items) (e.position % length b.ring.items)) where
                  gone : (q : ℕ) (x : Entry T) → q ≢ e.position → held b.ring.items q ≡ Some x → x.position ≡ q → q % length b.ring.items ≡ e.position % length b.ring.items → q + size_of past ≤ greatest_stored (past.events ++ pushed e.position e.moment e.value true ∷ [])
                  gone q x ne k at same =
                      let there : slot_of b.ring.items e.position ≡ Some x = ap (λ (i : ℕ). slice_index_or b.ring.items i None) (sym same) ∙ (held_slot b.ring.items q x k).0 in
                      let test : yields_to e.position (Some x) ≡ true = ap (λ (o : Option (Entry T)). yields_to e.position o) (sym there) ∙ room in
                      let below : x.position ≤ e.position = grind (arith, nat_tests) in
                      let lower : q < e.position = omega arith in
                      ⊎_elim
                      (λ (no_other : x.position ≡ e.position). absurd (ne (sym at ∙ no_other)))
                      (λ (full : b.size ≤ length b.ring.items).
                      reach q (length b.ring.items) e.position b.size (size_of past) (greatest_stored past.events) (greatest_stored (past.events ++ pushed e.position e.moment e.value true ∷ [])) (step_up (length b.ring.items) q e.position some lower same) full h.sized (greatest_by-push stored_position past.events (pushed e.position e.moment e.value true)))
                      (ready x there) where
                        reach : (q n p s z g k : ℕ) → q + n ≤ p → s ≤ n → s ≡ z → k ≡ max g p → q + z ≤ k
                        reach q n p s z g k i j l m = omega arith

-- a push that must be stored is looked at, and finds room
pub must_take : {T : Type 0} (b : EvictingBuffer T) (past : Past T) (p t : ℕ) → StandsFor b past → MustStore past p t → takes_push b p t ≡ true
must_take {T} b past p t h m =
    all (h.roomy m.roomy) (subst (λ (a : ℕ). 0 < a) (sym h.ages) m.aging) (subst (λ (a : ℕ). a ≤ t) (sym h.timed) m.timely) (mark b.mark refl) where
      mark : (o : Option ℕ) → b.mark ≡ o → not (is_under o p) ≡ true
      mark None is = refl
      mark (Some n) is = let low : n ≤ next_position past.events = h.marked n is in let le : n ≤ p = omega (arith, m.above) in grind (arith, nat_tests)

      all : 0 < length b.ring.items → 0 < b.age → b.timeout ≤ t → not (is_under b.mark p) ≡ true → takes_push b p t ≡ true
      all x y z w = grind (arith, nat_tests)

pub must_room : {T : Type 0} (b : EvictingBuffer T) (past : Past T) (p t : ℕ) → StandsFor b past → MustStore past p t → has_room b.ring.items p ≡ true
must_room {T} b past p t h m = pick (slot_of b.ring.items p) refl where
  pick : (o : Option (Entry T)) → slot_of b.ring.items p ≡ o → yields_to p o ≡ true
  pick None is = refl
  pick (Some f) is =
      let same : f.position % length b.ring.items ≡ p % length b.ring.items = h.in_place (p % length b.ring.items) f is in
      let there : held b.ring.items f.position ≡ Some f = slot_held b.ring.items f (ap (λ (i : ℕ). slice_index_or b.ring.items i None) same ∙ is) in
      let low : f.position + 1 ≤ next_position past.events = held_next b past f h (held_in b.ring.items f.position f there) in
      let le : f.position ≤ p = omega (arith, m.above) in
      grind (arith, nat_tests)

pub shut_stands : {T : Type 0} (b : EvictingBuffer T) (past : Past T) (p t : ℕ) (v : T) → takes_push b p t ≡ false → StandsFor b past → IsPushed past p t v b
shut_stands b past p t v shut h = (false, λ m. sym shut ∙ must_take b past p t h m, ignored_stands b past p t v h)

pub blocked_stands : {T : Type 0} (b : EvictingBuffer T) (past : Past T) (e : Entry T) → has_room b.ring.items e.position ≡ false → StandsFor b past → IsPushed past e.position e.moment e.value b
blocked_stands b past e full h = (false, λ m. sym full ∙ must_room b past e.position e.moment h m, ignored_stands b past e.position e.moment e.value h)

-- the mark after a push
pub put_marks : {T : Type 0} (was is : ℕ → Option T) (past : Past T) (p t : ℕ) (o : Option ℕ) → MarksPush was is past p t o (Some (unwrap_or o p))
put_marks was is past p t o = record { either = inr (inl refl); first = λ m. (unwrap_or o p, refl, omega arith); rises = λ m k. at m k } where
  at : (m : ℕ) → o ≡ Some m → IsAtLeast (Some (unwrap_or o p)) m
  at m k = (m, ap (λ (x : Option ℕ). Some (unwrap_or x p)) k, omega arith)

pub blocked_marks : {T : Type 0} (was is : ℕ → Option T) (b : EvictingBuffer T) (past : Past T) (p t : ℕ) → has_room b.ring.items p ≡ false → StandsFor b past → MarksPush was is past p t b.mark b.mark
blocked_marks was is b past p t full h = record {
  either = inl refl;
  first = λ m. absurd (let not_so : true ≡ false = sym (must_room b past p t h m) ∙ full in cc);
  rises = λ m k. (m, k, omega arith);
}

-- what the mark says does not hang on what was held, where no position went
pub same_marks : {T : Type 0} (was was' is : ℕ → Option T) (past : Past T) (p t : ℕ) (o n : Option ℕ) → ((n ≡ o) ⊎ (n ≡ Some (unwrap_or o p))) → MarksPush was is past p t o n → MarksPush was' is past p t o n
same_marks was was' is past p t o n e m = record { either = ⊎_elim (λ (k : n ≡ o). inl k) (λ (k : n ≡ Some (unwrap_or o p)). inr (inl k)) e; first = m.first; rises = m.rises }

pub put_stands : {T : Type 0} (b b' : EvictingBuffer T) (past : Past T) (e : Entry T) → Places b b' e → has_room b.ring.items e.position ≡ true → IsReady b e.position → 0 < length b.ring.items → b.timeout ≤ e.moment → StandsFor b past → IsPushed past e.position e.moment e.value b'
put_stands b b' past e w room ready some timely h = (true, λ m. refl, placed_stands b b' past e w room ready some timely h)

-- an eviction
pub late_stands : {T : Type 0} (b : EvictingBuffer T) (past : Past T) (now : ℕ) → now < b.timeout → StandsFor b past → StandsFor b (with_event past (evicted now))
late_stands {T} b past now early h =
    record {
      ages = h.ages;
      sized = h.sized;
      roomy = h.roomy;
      timed = h.timed ∙ late;
      in_place = h.in_place;
      true_to = λ q x is. under_evicted past.events now q ∙ h.true_to q x is;
      keeps = λ q u w is. ⊎_elim
          (λ (k : held b.ring.items q ≡ Some (record { position = q; moment = u; value = w })). inl k)
          (λ (k : MayGo past q u). inr (may_go_more past (evicted now) q u k))
          (h.keeps q u w (sym (under_evicted past.events now q) ∙ is));
      newest = h.newest ∙ sym (last_by-push stored_at past.events (evicted now));
      marked = λ m is. le m (next_position past.events) (next_position (past.events ++ evicted now ∷ [])) (h.marked m is) (greatest_by_grows after_pushed past.events (evicted now));
      inert = h.inert;
      low = h.low;
      high = h.high;
      young = λ r q x is. subst (λ (n : ℕ). n ≤ x.moment + past.age) late (h.young (rising_front past.events (evicted now) r) q x is);
    } where
      le : (a c d : ℕ) → a ≤ c → c ≤ d → a ≤ d
      le a c d h k = omega arith

      late : latest_eviction past.events ≡ latest_eviction (past.events ++ evicted now ∷ [])
      late = omega (arith, greatest_by-push evicted_at past.events (evicted now), h.timed)

pub evicted_stands : {T : Type 0} (b b' : EvictingBuffer T) (past : Past T) (now : ℕ) → Drops b b' now → IsDone b' now → b.timeout ≤ now → StandsFor b past → StandsFor (record b' { timeout = now }) (with_event past (evicted now))
evicted_stands {T} b b' past now d done timely h =
    record {
      ages = age_is ∙ h.ages;
      sized = ap (λ (o : EvictingBuffer T). o.size) d.rest ∙ h.sized;
      roomy = λ r. subst (λ (n : ℕ). 0 < n) (sym d.long) (h.roomy r);
      timed = latest;
      in_place = d.in_place;
      true_to = λ q x is. under_evicted past.events now q ∙ h.true_to q x (d.from q x is);
      keeps = λ q u v is. ⊎_elim
          (λ (k : held b.ring.items q ≡ Some (record { position = q; moment = u; value = v })). stays q (record { position = q; moment = u; value = v }) k)
          (λ (k : MayGo past q u). inr (may_go_more past (evicted now) q u k))
          (h.keeps q u v (sym (under_evicted past.events now q) ∙ is));
      newest = ap (λ (o : EvictingBuffer T). o.last) d.rest ∙ h.newest ∙ sym (last_by-push stored_at past.events (evicted now));
      marked = λ m is. le m (next_position past.events) (next_position (past.events ++ evicted now ∷ [])) (mark_at m is) (greatest_by_grows after_pushed past.events (evicted now));
      inert = λ z. d.long ∙ h.inert z;
      low = d.low;
      high = λ q x is. subst (λ (n : ℕ). q ≤ n) (sym (ap (λ (o : EvictingBuffer T). o.high) d.rest)) (h.high q x (d.from q x is));
      young = λ r q x is. subst (λ (n : ℕ). n ≤ x.moment + past.age) latest (young_at (rising_front past.events (evicted now) r) q x is);
    } where
      le : (a c d : ℕ) → a ≤ c → c ≤ d → a ≤ d
      le a c d h k = omega arith

      age_is : b'.age ≡ b.age
      age_is = ap (λ (o : EvictingBuffer T). o.age) d.rest

      latest : now ≡ latest_eviction (past.events ++ evicted now ∷ [])
      latest = omega (arith, greatest_by-push evicted_at past.events (evicted now), h.timed)

      mark_at : (m : ℕ) → b'.mark ≡ Some m → m ≤ next_position past.events
      mark_at m is =
          ⊎_elim
          (λ (k : b'.mark ≡ b.mark). h.marked m (sym k ∙ is))
          (λ (k : (q : ℕ) × (x : Entry T) × (held b.ring.items q ≡ Some x) × (held b'.ring.items q ≡ None) × (b'.mark ≡ Some (mark_above q))).
          let next : k.0 + 1 ≤ next_position past.events = under_next k.0 past.events (k.1.moment, k.1.value) (h.true_to k.0 k.1 k.2) in
          at_most m k.0 (next_position past.events) (some_is m (mark_above k.0) (sym is ∙ k.4)) next)
          d.marks where
            some_is : (a c : ℕ) → Some a ≡ Some c → a ≡ c
            some_is a c k = cc

            at_most : (m q n : ℕ) → m ≡ mark_above q → q + 1 ≤ n → m ≤ n
            at_most m q n i j = omega arith

      stays : (q : ℕ) (x : Entry T) → held b.ring.items q ≡ Some x → (held b'.ring.items q ≡ Some x) ⊎ MayGo (with_event past (evicted now)) q x.moment
      stays q x k =
          ⊎_elim
          (λ (w : held b'.ring.items q ≡ Some x). inl w)
          (λ (w : (b.age < now - x.moment) × IsMarked b'.mark q). inr (inl (subst (λ (n : ℕ). x.moment + past.age < n) latest (gone b.age past.age now x.moment h.ages w.0))))
          (d.stays q x k) where
            gone : (a g n m : ℕ) → a ≡ g → a < n - m → m + g < n
            gone a g n m i j = omega arith

      young_at : IsRising past.events → (q : ℕ) (x : Entry T) → held b'.ring.items q ≡ Some x → now ≤ x.moment + past.age
      young_at r q x is =
          let y = done.young q x is in
          let mine : held b.ring.items y.0.position ≡ Some y.0 = d.from y.0.position y.0 y.1 in
          let its : held b.ring.items q ≡ Some x = d.from q x is in
          ⊎_elim
          (λ (lt : y.0.position < q).
          let order : y.0.moment ≤ x.moment = rising_order past.events y.0.position q (y.0.moment, y.0.value) (x.moment, x.value) r (h.true_to y.0.position y.0 mine) (h.true_to q x its) lt in
          near now y.0.moment x.moment b'.age past.age y.3 (age_is ∙ h.ages) order)
          (λ (ge : q ≤ y.0.position).
          let at : y.0.position ≡ q = here y.0.position q y.2 ge in
          let both : Some y.0 ≡ Some x = sym mine ∙ ap (λ (i : ℕ). held b.ring.items i) at ∙ its in
          let eq : y.0 ≡ x = cc in
          near now y.0.moment x.moment b'.age past.age y.3 (age_is ∙ h.ages) (same y.0.moment x.moment (ap (λ (z : Entry T). z.moment) eq)))
          (cases_lt y.0.position q) where
            near : (n m o a g : ℕ) → n - m ≤ a → a ≡ g → m ≤ o → n ≤ o + g
            near n m o a g i j l = omega arith

            here : (p q : ℕ) → p ≤ q → q ≤ p → p ≡ q
            here p q i j = omega arith

            same : (m o : ℕ) → m ≡ o → m ≤ o
            same m o i = omega arith

pub stands_bounded : {T : Type 0} (b : EvictingBuffer T) (past : Past T) → StandsFor b past → IsBounded b
stands_bounded b past h = record { in_place = h.in_place; low = h.low; high = h.high }

-- a buffer that was cleared, or made
none_kept : {T : Type 0} (ring : List (Option (Entry T))) (q : ℕ) (x : Entry T) → held (map (kept_from None) ring) q ≡ Some x → ⊥
none_kept ring q x is = let t = dropped_from None ring q x is in let not_so : true ≡ false = t.1 in cc

pub cleared_stands : {T : Type 0} (b b' : EvictingBuffer T) (past : Past T) → b'.ring.items ≡ map (kept_from None) b.ring.items → b' ≡ record b { ring = b'.ring; last = None; mark = None; low = b'.low; high = b'.high; timeout = 0 } → StandsFor b past → StandsFor b' (emptied past)
cleared_stands {T} b b' past items rest h = record {
  ages = ap (λ (o : EvictingBuffer T). o.age) rest ∙ h.ages;
  sized = ap (λ (o : EvictingBuffer T). o.size) rest ∙ h.sized;
  roomy = λ r. rw (items, length-map) (h.roomy r);
  timed = ap (λ (o : EvictingBuffer T). o.timeout) rest;
  in_place = rw items (dropped_in_place None b.ring.items h.in_place);
  true_to = λ q x is. absurd (none_kept b.ring.items q x (ap (λ (r : List (Option (Entry T))). held r q) (sym items) ∙ is));
  keeps = λ q t v is. absurd (let not_so : None ≡ Some (t, v) = is in cc);
  newest = ap (λ (o : EvictingBuffer T). o.last) rest;
  marked = λ m is. absurd (let not_so : None ≡ Some m = sym (ap (λ (o : EvictingBuffer T). o.mark) rest) ∙ is in cc);
  inert = λ z. rw (items, length-map) (h.inert z);
  low = λ q x is. absurd (none_kept b.ring.items q x (ap (λ (r : List (Option (Entry T))). held r q) (sym items) ∙ is));
  high = λ q x is. absurd (none_kept b.ring.items q x (ap (λ (r : List (Option (Entry T))). held r q) (sym items) ∙ is));
  young = λ r q x is. omega arith;
}
