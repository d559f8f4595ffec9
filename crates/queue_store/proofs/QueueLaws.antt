-- What a queue stands for after each step.
use Rattle.std.proofs.Common.{◌≡◌, ◌≢◌, ℕ, ◌+◌, ◌-◌, ◌<◌, ◌≤◌, ◌^◌, Bool, true, false, cond, eqb, List, [], ◌∷◌, ◌++◌, refl, sym, ap, ◌∙◌, subst, arith, length, map, drop, max, min, inl, inr, ⊎_elim, ◌⊎◌, Option, Some, None}
use Rattle.std.specs.Prelude.{◌&&◌, not, nat_lt, nat_le, unwrap_or, option_map, option_and_then, slice_get}
use Rattle.std.proofs.lemmas.List.{length-set}
use Rattle.std.proofs.lemmas.Bool.Decides.{nat_tests}
use Rattle.std.proofs.lemmas.Bool.{cases_eq, cases_lt}
use Rattle.resend_core.specs.ResendStore.{Event, pushed, evicted, Past, with_event, revalued, revalued_event, size_of, last_under, after_pushed, next_position, evicted_at, latest_eviction, IsRising, MustStore, MayGo, greatest_by, mark_above, raised_to, is_under, IsMarked, MarksPush, MarksEviction, greatest_stored}
use Rattle.resend_core.specs.EventLaws.{AddsOneEvent, StoresUnder, ChangesOneValue, with_moment}
use Rattle.queue_store.specs.declared.stamps.Stamp.{Stamp}
use Rattle.queue_store.specs.declared.queue.QueueStore.{QueueStore}
use Rattle.queue_store.specs.Stamps.{stamp_at, first_of, AllAbove, IsGreatest}
use Rattle.queue_store.specs.Queue.{index_of, held, held_in, value_at, with_item, StandsFor, Puts, Drops, IsOld, IsFar, IsThat, IsDone, IsPaired, takes_push}
use Rattle.queue_store.proofs.HeldLaws.{eq_true, eq_false, held_index, held_item}
use Rattle.queue_store.proofs.RowLaws.{Front, front_dropped, held_from, held_some}

-- ---- the mark
same_some : (a b : ℕ) → Some a ≡ Some b → a ≡ b
same_some a b h = cc

marked_here : (o : Option ℕ) (p : ℕ) → IsMarked (raised_to o p) p
marked_here None p = (mark_above p, refl, omega arith)
marked_here (Some m) p = (max m (mark_above p), refl, omega arith)

mark_higher : (o : Option ℕ) (p m : ℕ) → o ≡ Some m → (k : ℕ) × (raised_to o p ≡ Some k) × (m ≤ k)
mark_higher None p m e = absurd (let no : None ≡ Some m = e in cc)
mark_higher (Some n) p m e = let same : n ≡ m = same_some n m e in (max n (mark_above p), refl, omega arith)

mark_either : (o : Option ℕ) (p : ℕ) → (raised_to o p ≡ o) ⊎ (raised_to o p ≡ Some (mark_above p))
mark_either None p = inr refl
mark_either (Some m) p =
    ⊎_elim
    (λ (lt : m < mark_above p). let is : max m (mark_above p) ≡ mark_above p = omega arith in inr (ap (λ (n : ℕ). Some n) is))
    (λ (ge : mark_above p ≤ m). let is : max m (mark_above p) ≡ m = omega arith in inl (ap (λ (n : ℕ). Some n) is))
    (cases_lt m (mark_above p))

marked_on : (o n : Option ℕ) (p : ℕ) → ((m : ℕ) → o ≡ Some m → (k : ℕ) × (n ≡ Some k) × (m ≤ k)) → IsMarked o p → IsMarked n p
marked_on o n p higher w = let k = higher w.0 w.1 in let low : mark_above p ≤ w.0 = w.2 in let up : w.0 ≤ k.0 = k.2 in (k.0, k.1, omega arith)

no_some : {A : Type 0} (x : A) (o : Option A) → o ≡ None → o ≡ Some x → ⊥
no_some x o n s = let no : None ≡ Some x = sym n ∙ s in cc

-- ---- drops

pub drops_one : {T : Type 0} (old new : QueueStore T) (s : Stamp) → Front old.stamps old.values s → new.stamps ≡ drop 1 old.stamps → new.values ≡ drop 1 old.values → new ≡ record old { stamps = new.stamps; values = new.values; mark = raised_to old.mark s.position } → Drops (IsThat s) old new
drops_one {T} old new s f ss vs rest = record {
  paired = ap length ss ∙ f.paired ∙ sym (ap length vs);
  from = λ p x is. from p x (sym (at p) ∙ is);
  stays = λ p x is. ⊎_elim
      (λ (e : p ≡ s.position). inr ((e, moment p x e is), gone_at p e, subst (λ (n : ℕ). IsMarked new.mark n) (sym e) marked))
      (λ (ne : p ≢ s.position). inl (at p ∙ f.rest p ne ∙ is))
      (cases_eq p s.position);
  marks = ⊎_elim
      (λ (e : raised_to old.mark s.position ≡ old.mark). inl (mark ∙ e))
      (λ (e : raised_to old.mark s.position ≡ Some (mark_above s.position)). inr (s.position, (s.moment, f.value), f.here, gone_at s.position refl, mark ∙ e))
      (mark_either old.mark s.position);
  rises = λ p w. marked_on old.mark new.mark p higher w;
  higher = higher;
  rest = rest ∙ ap (λ (m : Option ℕ). record old { stamps = new.stamps; values = new.values; mark = m }) (sym mark);
} where
  at : (k : ℕ) → held_in new k ≡ held (drop 1 old.stamps) (drop 1 old.values) k
  at k = ap (λ (l : List Stamp). held l new.values k) ss ∙ ap (λ (l : List T). held (drop 1 old.stamps) l k) vs

  mark : new.mark ≡ raised_to old.mark s.position
  mark = ap (λ (q : QueueStore T). q.mark) rest

  marked : IsMarked new.mark s.position
  marked = subst (λ (o : Option ℕ). IsMarked o s.position) (sym mark) (marked_here old.mark s.position)

  higher : (m : ℕ) → old.mark ≡ Some m → (k : ℕ) × (new.mark ≡ Some k) × (m ≤ k)
  higher m e = let h = mark_higher old.mark s.position m e in (h.0, mark ∙ h.1, h.2)

  gone_at : (p : ℕ) → p ≡ s.position → held_in new p ≡ None
  gone_at p e = at p ∙ ap (λ (n : ℕ). held (drop 1 old.stamps) (drop 1 old.values) n) e ∙ f.gone

  moment : (p : ℕ) (x : ℕ × T) → p ≡ s.position → held_in old p ≡ Some x → x.0 ≡ s.moment
  moment p x e is = let both : Some x ≡ Some (s.moment, f.value) = sym is ∙ ap (λ (n : ℕ). held_in old n) e ∙ f.here in let same : x ≡ (s.moment, f.value) = cc in ap (λ (y : ℕ × T). y.0) same

  from : (p : ℕ) (x : ℕ × T) → held (drop 1 old.stamps) (drop 1 old.values) p ≡ Some x → held_in old p ≡ Some x
  from p x is = ⊎_elim
      (λ (e : p ≡ s.position). absurd (no_some x (held (drop 1 old.stamps) (drop 1 old.values) p) (ap (λ (n : ℕ). held (drop 1 old.stamps) (drop 1 old.values) n) e ∙ f.gone) is))
      (λ (ne : p ≢ s.position). sym (f.rest p ne) ∙ is)
      (cases_eq p s.position)

pub drops_then : {T : Type 0} (gone : ℕ → ℕ → Type 0) (s : Stamp) (old mid new : QueueStore T) → Drops gone old mid → Drops (IsThat s) mid new → gone s.position s.moment → Drops gone old new
drops_then {T} gone s old mid new a b why = record {
  paired = b.paired;
  from = λ p x is. a.from p x (b.from p x is);
  stays = λ p x is. ⊎_elim
      (λ (k : held_in mid p ≡ Some x). ⊎_elim
      (λ (l : held_in new p ≡ Some x). inl l)
      (λ (l : IsThat s p x.0 × (held_in new p ≡ None) × IsMarked new.mark p). inr (of p x.0 l.0, l.1, l.2))
      (b.stays p x k))
      (λ (k : gone p x.0 × (held_in mid p ≡ None) × IsMarked mid.mark p). inr (k.0, none p k.1, b.rises p k.2))
      (a.stays p x is);
  marks = ⊎_elim
      (λ (e : new.mark ≡ mid.mark). ⊎_elim
      (λ (f : mid.mark ≡ old.mark). inl (e ∙ f))
      (λ (f : (p : ℕ) × (x : ℕ × T) × (held_in old p ≡ Some x) × (held_in mid p ≡ None) × (mid.mark ≡ Some (mark_above p))). inr (f.0, f.1, f.2, none f.0 f.3, e ∙ f.4))
      a.marks)
      (λ (f : (p : ℕ) × (x : ℕ × T) × (held_in mid p ≡ Some x) × (held_in new p ≡ None) × (new.mark ≡ Some (mark_above p))). inr (f.0, f.1, a.from f.0 f.1 f.2, f.3, f.4))
      b.marks;
  rises = λ p w. b.rises p (a.rises p w);
  higher = λ m e. let i = a.higher m e in let j = b.higher i.0 i.1 in let low : m ≤ i.0 = i.2 in let up : i.0 ≤ j.0 = j.2 in (j.0, j.1, omega arith);
  rest = b.rest ∙ ap (λ (q : QueueStore T). record q { stamps = new.stamps; values = new.values; mark = new.mark }) a.rest;
} where
  of : (p t : ℕ) → IsThat s p t → gone p t
  of p t k = subst (λ (n : ℕ). gone n t) (sym k.0) (subst (λ (n : ℕ). gone s.position n) (sym k.1) why)

  none : (p : ℕ) → held_in mid p ≡ None → held_in new p ≡ None
  none p n = pick (held_in new p) refl where
    pick : (o : Option (ℕ × T)) → held_in new p ≡ o → o ≡ None
    pick None e = refl
    pick (Some x) e = absurd (no_some x (held_in mid p) n (b.from p x e))

-- ---- what it stands for
pub drops_stands : {T : Type 0} (gone : ℕ → ℕ → Type 0) (old new : QueueStore T) (past : Past T) → Drops gone old new → ((p t : ℕ) → gone p t → MayGo past p t) → ((m : ℕ) → new.mark ≡ Some m → m ≤ next_position past.events) → StandsFor old past → StandsFor new past
drops_stands {T} gone old new past d may low h = record {
  ages = ap (λ (q : QueueStore T). q.age) d.rest ∙ h.ages;
  sized = ap (λ (q : QueueStore T). q.size) d.rest ∙ h.sized;
  timed = ap (λ (q : QueueStore T). q.timeout) d.rest ∙ h.timed;
  paired = d.paired;
  true_to = λ p x is. h.true_to p x (d.from p x is);
  keeps = λ p x is. ⊎_elim
      (λ (k : held_in old p ≡ Some x). ⊎_elim
      (λ (l : held_in new p ≡ Some x). inl l)
      (λ (l : gone p x.0 × (held_in new p ≡ None) × IsMarked new.mark p). inr (may p x.0 l.0))
      (d.stays p x k))
      (λ (k : MayGo past p x.0). inr k)
      (h.keeps p x is);
  newest = ap (λ (q : QueueStore T). q.last) d.rest ∙ h.newest;
  marked = low;
  young = λ r p x is. h.young r p x (d.from p x is);
}

-- one event more gives no less
grows : {T : Type 0} → AddsOneEvent T → (f : Event T → ℕ) (es : List (Event T)) (e : Event T) → greatest_by f es ≤ greatest_by f (es ++ e ∷ [])
grows added f es e = omega (arith, added.greatest f es e)

-- the mark is not above all that was pushed
pub mark_low : {T : Type 0} (stored : StoresUnder T) (gone : ℕ → ℕ → Type 0) (old new : QueueStore T) (past : Past T) → Drops gone old new → StandsFor old past → (m : ℕ) → new.mark ≡ Some m → m ≤ next_position past.events
mark_low {T} stored gone old new past d h m is =
    ⊎_elim
    (λ (e : new.mark ≡ old.mark). h.marked m (sym e ∙ is))
    (λ (f : (p : ℕ) × (x : ℕ × T) × (held_in old p ≡ Some x) × (held_in new p ≡ None) × (new.mark ≡ Some (mark_above p))).
    let same : mark_above f.0 ≡ m = same_some (mark_above f.0) m (sym f.4 ∙ is) in
    let under : f.0 + 1 ≤ next_position past.events = stored.below f.0 past.events f.1 (h.true_to f.0 f.1 f.2) in
    low f.0 m (next_position past.events) same under)
    d.marks where
      low : (p m n : ℕ) → min (p + 1) (2 ^ 64 - 1) ≡ m → p + 1 ≤ n → m ≤ n
      low p m n e u = omega arith

-- a push that is not stored
pub ignored_stands : {T : Type 0} (added : AddsOneEvent T) (q : QueueStore T) (past : Past T) (p t : ℕ) (v : T) → StandsFor q past → StandsFor q (with_event past (pushed p t v false))
ignored_stands {T} added q past p t v h = record {
  ages = h.ages;
  sized = h.sized;
  timed = h.timed ∙ same evicted_at refl;
  paired = h.paired;
  true_to = λ k x is. added.under_ignored past.events p t v k ∙ h.true_to k x is;
  keeps = λ k x is. ⊎_elim
      (λ (w : held_in q k ≡ Some x). inl w)
      (λ (w : MayGo past k x.0). inr (added.may_go past (pushed p t v false) k x.0 w))
      (h.keeps k x (sym (added.under_ignored past.events p t v k) ∙ is));
  newest = h.newest ∙ sym (added.newest past.events (pushed p t v false));
  marked = λ m is. le m (next_position past.events) (next_position (past.events ++ pushed p t v false ∷ [])) (h.marked m is) (grows added after_pushed past.events (pushed p t v false));
  young = λ r k x is. subst (λ (n : ℕ). n ≤ x.0 + past.age) (same evicted_at refl) (h.young (added.rising past.events (pushed p t v false) r) k x is);
} where
  le : (a b c : ℕ) → a ≤ b → b ≤ c → a ≤ c
  le a b c i j = omega arith

  same : (f : Event T → ℕ) → f (pushed p t v false) ≡ 0 → greatest_by f past.events ≡ greatest_by f (past.events ++ pushed p t v false ∷ [])
  same f z = omega (arith, added.greatest f past.events (pushed p t v false))

-- a push that is stored
pub put_stands : {T : Type 0} (added : AddsOneEvent T) (old new : QueueStore T) (past : Past T) (p t : ℕ) (v : T) → Puts old new p t v → old.timeout ≤ t → StandsFor old past → StandsFor new (with_event past (pushed p t v true))
put_stands {T} added old new past p t v w timely h = record {
  ages = ap (λ (q : QueueStore T). q.age) w.rest ∙ h.ages;
  sized = ap (λ (q : QueueStore T). q.size) w.rest ∙ h.sized;
  timed = ap (λ (q : QueueStore T). q.timeout) w.rest ∙ h.timed ∙ late;
  paired = w.paired;
  true_to = λ k x is. true_at k x (sym (w.held k) ∙ is);
  keeps = λ k x is. keeps_at k x is;
  newest = ap (λ (q : QueueStore T). q.last) w.rest ∙ sym (added.newest past.events (pushed p t v true));
  marked = λ m is. mark_at m (sym (ap (λ (q : QueueStore T). q.mark) w.rest) ∙ is);
  young = λ r k x is. subst (λ (n : ℕ). n ≤ x.0 + past.age) late (young_at r k x (sym (w.held k) ∙ is));
} where
  late : latest_eviction past.events ≡ latest_eviction (past.events ++ pushed p t v true ∷ [])
  late = omega (arith, added.greatest evicted_at past.events (pushed p t v true))

  here : (k : ℕ) (o : Option (ℕ × T)) → p ≡ k → cond (eqb p k) (Some (t, v)) o ≡ Some (t, v)
  here k o e = ap (λ (b : Bool). cond b (Some (t, v)) o) (eq_true p k e)

  there : (k : ℕ) (o : Option (ℕ × T)) → p ≢ k → cond (eqb p k) (Some (t, v)) o ≡ o
  there k o ne = ap (λ (b : Bool). cond b (Some (t, v)) o) (eq_false p k ne)

  true_at : (k : ℕ) (x : ℕ × T) → cond (eqb p k) (Some (t, v)) (held_in old k) ≡ Some x → last_under k (past.events ++ pushed p t v true ∷ []) ≡ Some x
  true_at k x is = ⊎_elim
      (λ (e : p ≡ k). ap (λ (i : ℕ). last_under i (past.events ++ pushed p t v true ∷ [])) (sym e) ∙ added.under_same past.events p t v ∙ sym (here k (held_in old k) e) ∙ is)
      (λ (ne : p ≢ k). added.under_other past.events p t v k (λ e. ne (sym e)) ∙ h.true_to k x (sym (there k (held_in old k) ne) ∙ is))
      (cases_eq p k)

  keeps_at : (k : ℕ) (x : ℕ × T) → last_under k (past.events ++ pushed p t v true ∷ []) ≡ Some x → (held_in new k ≡ Some x) ⊎ MayGo (with_event past (pushed p t v true)) k x.0
  keeps_at k x is = ⊎_elim
      (λ (e : p ≡ k). inl (w.held k ∙ here k (held_in old k) e ∙ sym (added.under_same past.events p t v) ∙ ap (λ (i : ℕ). last_under i (past.events ++ pushed p t v true ∷ [])) e ∙ is))
      (λ (ne : p ≢ k). ⊎_elim
      (λ (y : held_in old k ≡ Some x). inl (w.held k ∙ there k (held_in old k) ne ∙ y))
      (λ (y : MayGo past k x.0). inr (added.may_go past (pushed p t v true) k x.0 y))
      (h.keeps k x (sym (added.under_other past.events p t v k (λ e. ne (sym e))) ∙ is)))
      (cases_eq p k)

  young_at : IsRising (past.events ++ pushed p t v true ∷ []) → (k : ℕ) (x : ℕ × T) → cond (eqb p k) (Some (t, v)) (held_in old k) ≡ Some x → latest_eviction past.events ≤ x.0 + past.age
  young_at r k x is = ⊎_elim
      (λ (e : p ≡ k). let both : Some (t, v) ≡ Some x = sym (here k (held_in old k) e) ∙ is in let same : ◌≡◌ {A = ℕ × T} (t, v) x = cc in new_young old.timeout (latest_eviction past.events) t x.0 past.age h.timed timely (ap (λ (y : ℕ × T). y.0) same))
      (λ (ne : p ≢ k). h.young (added.rising past.events (pushed p t v true) r) k x (sym (there k (held_in old k) ne) ∙ is))
      (cases_eq p k) where
        new_young : (a l m n g : ℕ) → a ≡ l → a ≤ m → m ≡ n → l ≤ n + g
        new_young a l m n g i j k = omega arith

  mark_at : (m : ℕ) → Some (unwrap_or old.mark p) ≡ Some m → m ≤ next_position (past.events ++ pushed p t v true ∷ [])
  mark_at m is = pick old.mark refl (same_some (unwrap_or old.mark p) m is) where
    grew : next_position (past.events ++ pushed p t v true ∷ []) ≡ max (next_position past.events) (p + 1)
    grew = added.greatest after_pushed past.events (pushed p t v true)

    pick : (o : Option ℕ) → old.mark ≡ o → unwrap_or o p ≡ m → m ≤ next_position (past.events ++ pushed p t v true ∷ [])
    pick None k l = omega (arith, grew)
    pick (Some n) k l = let low : n ≤ next_position past.events = h.marked n k in omega (arith, grew)

-- what is far below may go
pub far_goes : {T : Type 0} (stored : StoresUnder T) (q : QueueStore T) (past : Past T) (p t : ℕ) → StandsFor q past → IsFar q p t → MayGo past p t
far_goes {T} stored q past p t h w =
    let within : w.0 ≤ greatest_stored past.events = stored.within w.0 past.events w.1 (h.true_to w.0 w.1 w.2) in
    inr (reach p q.size (size_of past) w.0 (greatest_stored past.events) h.sized w.3 within) where
      reach : (p s n g m : ℕ) → s ≡ n → p + s ≤ g → g ≤ m → p + n ≤ m
      reach p s n g m e i j = omega arith

-- an eviction
pub evicted_stands : {T : Type 0} (added : AddsOneEvent T) (stored : StoresUnder T) (old mid : QueueStore T) (past : Past T) (now : ℕ) → Drops (IsOld now old.age) old mid → IsDone mid now → old.timeout ≤ now → StandsFor old past → StandsFor (record mid { timeout = now }) (with_event past (evicted now))
evicted_stands {T} added stored old mid past now d done later h = record {
  ages = ap (λ (q : QueueStore T). q.age) d.rest ∙ h.ages;
  sized = ap (λ (q : QueueStore T). q.size) d.rest ∙ h.sized;
  timed = omega (arith, latest, h.timed);
  paired = d.paired;
  true_to = λ p x is. added.under_evicted past.events now p ∙ h.true_to p x (d.from p x is);
  keeps = λ p x is. ⊎_elim
      (λ (k : held_in old p ≡ Some x). ⊎_elim
      (λ (l : held_in mid p ≡ Some x). inl l)
      (λ (l : IsOld now old.age p x.0 × (held_in mid p ≡ None) × IsMarked mid.mark p). inr (inl (old_goes x.0 old.age past.age (latest_eviction past.events) (latest_eviction (past.events ++ evicted now ∷ [])) h.ages latest l.0)))
      (d.stays p x k))
      (λ (k : MayGo past p x.0). inr (added.may_go past (evicted now) p x.0 k))
      (h.keeps p x (sym (added.under_evicted past.events now p) ∙ is));
  newest = ap (λ (q : QueueStore T). q.last) d.rest ∙ h.newest ∙ sym (added.newest past.events (evicted now));
  marked = λ m is. le m (next_position past.events) (next_position (past.events ++ evicted now ∷ [])) (mark_low stored (IsOld now old.age) old mid past d h m is) (grows added after_pushed past.events (evicted now));
  young = λ r p x is. young_at (added.rising past.events (evicted now) r) p x is;
} where
  le : (a b c : ℕ) → a ≤ b → b ≤ c → a ≤ c
  le a b c i j = omega arith

  latest : latest_eviction (past.events ++ evicted now ∷ []) ≡ max (latest_eviction past.events) now
  latest = added.greatest evicted_at past.events (evicted now)

  old_goes : (t a b l m : ℕ) → a ≡ b → m ≡ max l now → a < now - t → t + b < m
  old_goes t a b l m e f g = omega arith

  young_at : IsRising past.events → (p : ℕ) (x : ℕ × T) → held_in mid p ≡ Some x → latest_eviction (past.events ++ evicted now ∷ []) ≤ x.0 + past.age
  young_at r p x is =
      let low = done.young p x is in
      let mid_age : mid.age ≡ past.age = ap (λ (q : QueueStore T). q.age) d.rest ∙ h.ages in
      let mine = h.true_to p x (d.from p x is) in
      let theirs = h.true_to low.0 low.1 (d.from low.0 low.1 low.2) in
      ⊎_elim
      (λ (lt : low.0 < p). close (latest_eviction past.events) (latest_eviction (past.events ++ evicted now ∷ [])) low.1.0 x.0 mid.age past.age (omega (arith, h.timed, later)) mid_age latest low.4 (stored.order past.events low.0 p low.1 x r theirs mine lt))
      (λ (ge : p ≤ low.0).
      let at : low.0 ≡ p = omega (arith, low.3) in
      let both : Some low.1 ≡ Some x = sym low.2 ∙ ap (λ (n : ℕ). held_in mid n) at ∙ is in
      let same : low.1 ≡ x = cc in
      close (latest_eviction past.events) (latest_eviction (past.events ++ evicted now ∷ [])) low.1.0 x.0 mid.age past.age (omega (arith, h.timed, later)) mid_age latest low.4 (at_most low.1.0 x.0 (ap (λ (y : ℕ × T). y.0) same)))
      (cases_lt low.0 p) where
        at_most : (a b : ℕ) → a ≡ b → a ≤ b
        at_most a b e = omega arith

        close : (l m t u a b : ℕ) → l ≤ now → a ≡ b → m ≡ max l now → now - t ≤ a → t ≤ u → m ≤ u + b
        close l m t u a b before e f g i = omega arith

-- the marks of a push
pub push_marks : {T : Type 0} (old mid new : QueueStore T) (past : Past T) (p t : ℕ) (v : T) → Puts old mid p t v → Drops (IsFar mid) mid new → MarksPush (value_at old) (value_at new) past p t old.mark new.mark
unfolding value_at
push_marks {T} old mid new past p t v w d = record {
  either = ⊎_elim
      (λ (e : new.mark ≡ mid.mark). inr (inl (e ∙ mark)))
      (λ (f : (k : ℕ) × (x : ℕ × T) × (held_in mid k ≡ Some x) × (held_in new k ≡ None) × (new.mark ≡ Some (mark_above k))).
      inr (inr (f.0, whose f.0 f.1 (sym (w.held f.0) ∙ f.2), ap (λ (o : Option (ℕ × T)). option_map (λ (x : ℕ × T). x.1) o) f.3, f.4)))
      d.marks;
  first = λ m. d.higher (unwrap_or old.mark p) mark;
  rises = λ m e. d.higher m (mark ∙ ap (λ (o : Option ℕ). Some (unwrap_or o p)) e);
} where
  mark : mid.mark ≡ Some (unwrap_or old.mark p)
  mark = ap (λ (q : QueueStore T). q.mark) w.rest

  whose : (k : ℕ) (x : ℕ × T) → cond (eqb p k) (Some (t, v)) (held_in old k) ≡ Some x → (k ≡ p) ⊎ ((y : T) × (option_map (λ (z : ℕ × T). z.1) (held_in old k) ≡ Some y))
  whose k x is = ⊎_elim
      (λ (e : p ≡ k). inl (sym e))
      (λ (ne : p ≢ k). inr (x.1, ap (λ (o : Option (ℕ × T)). option_map (λ (z : ℕ × T). z.1) o) (sym (ap (λ (b : Bool). cond b (Some (t, v)) (held_in old k)) (eq_false p k ne)) ∙ is)))
      (cases_eq p k)

value_held : {T : Type 0} (o : Option (ℕ × T)) (v : T) → option_map (λ (x : ℕ × T). x.1) o ≡ Some v → (x : ℕ × T) × (o ≡ Some x)
value_held None v e = absurd (let no : None ≡ Some v = e in cc)
value_held (Some x) v e = (x, refl)

value_none : {T : Type 0} (o : Option (ℕ × T)) → option_map (λ (x : ℕ × T). x.1) o ≡ None → o ≡ None
value_none None e = refl
value_none (Some x) e = absurd (let no : Some x.1 ≡ None = e in cc)

pub evict_marks : {T : Type 0} (gone : ℕ → ℕ → Type 0) (old mid : QueueStore T) (now : ℕ) → Drops gone old mid → MarksEviction (value_at old) (value_at (record mid { timeout = now })) old.mark mid.mark
unfolding value_at
evict_marks {T} gone old mid now d = record {
  above = λ p v was is.
      let x = value_held (held_in old p) v was in
      ⊎_elim
      (λ (k : held_in mid p ≡ Some x.0). absurd (no_some x.0 (held_in mid p) (value_none (held_in mid p) is) k))
      (λ (k : gone p x.0.0 × (held_in mid p ≡ None) × IsMarked mid.mark p). k.2)
      (d.stays p x.0 x.1);
  either = ⊎_elim
      (λ (e : mid.mark ≡ old.mark). inl e)
      (λ (f : (p : ℕ) × (x : ℕ × T) × (held_in old p ≡ Some x) × (held_in mid p ≡ None) × (mid.mark ≡ Some (mark_above p))).
      inr (f.0, f.1.1, ap (λ (o : Option (ℕ × T)). option_map (λ (x : ℕ × T). x.1) o) f.2, ap (λ (o : Option (ℕ × T)). option_map (λ (x : ℕ × T). x.1) o) f.3, f.4))
      d.marks;
}

-- the lowest is not too old
pub done_is : {T : Type 0} (q : QueueStore T) (s : Stamp) (now : ℕ) → IsPaired q → first_of q.stamps ≡ Some s → AllAbove s.position (drop 1 q.stamps) → now - s.moment ≤ q.age → IsDone q now
done_is {T} q s now pair first above young = record {
  young = λ p x is.
      let f = front_dropped q.stamps q.values s pair first above in
      (s.position, (s.moment, f.value), f.here, held_from q.stamps q.values s p x pair first above is, young);
}

-- the greatest position is held
pub far_is : {T : Type 0} (q : QueueStore T) (last lowest : Stamp) (below : ℕ) → IsPaired q → IsGreatest q.stamps last → lowest.position ≤ last.position → last.position - lowest.position ≡ below → q.size ≤ below → IsFar q lowest.position lowest.moment
far_is {T} q last lowest below pair g le is size =
    let top = held_some q.stamps q.values (length q.stamps - 1) pair (omega (arith, g.some)) in
    let at : (stamp_at q.stamps (length q.stamps - 1)).position ≡ last.position = ap (λ (s : Stamp). s.position) g.last in
    (last.position, top.0, ap (λ (n : ℕ). held_in q n) (sym at) ∙ top.1, omega arith)

-- the value at the index of a position
pub value_found : {T : Type 0} (q : QueueStore T) (p i : ℕ) → Some i ≡ index_of q.stamps p → slice_get q.values i ≡ value_at q p
unfolding value_at
value_found {T} q p i is = ap (λ (o : Option ℕ). option_and_then (slice_get q.values) o) is ∙ sym (held_index q.stamps q.values p)

pub value_missed : {T : Type 0} (q : QueueStore T) (p : ℕ) → None ≡ index_of q.stamps p → None ≡ value_at q p
unfolding value_at
value_missed {T} q p is = ap (λ (o : Option ℕ). option_and_then (slice_get q.values) o) is ∙ sym (held_index q.stamps q.values p)

-- the value of an entry was changed
pub revalued_stands : {T : Type 0} (changed : ChangesOneValue T) (q : QueueStore T) (past : Past T) (p i : ℕ) (w : T) → index_of q.stamps p ≡ Some i → StandsFor q past → StandsFor (with_item q (Some i) w) (revalued past p w)
revalued_stands {T} changed q past p i w at h = record {
  ages = h.ages;
  sized = h.sized;
  timed = h.timed ∙ sym (changed.evictions p w past.events);
  paired = h.paired ∙ sym (length-set q.values i w);
  true_to = λ k x is. true_at k x (sym (item k) ∙ is);
  keeps = λ k x is. keeps_at k x is;
  newest = h.newest ∙ sym (changed.newest p w past.events);
  marked = λ m is. subst (λ (n : ℕ). m ≤ n) (sym (changed.next p w past.events)) (h.marked m is);
  young = λ r k x is. subst (λ (n : ℕ). n ≤ x.0 + past.age) (sym (changed.evictions p w past.events)) (young_at (changed.rising p w past.events r) k x (sym (item k) ∙ is));
} where
  item : (k : ℕ) → held_in (with_item q (Some i) w) k ≡ cond (eqb p k) (option_map (with_moment w) (held_in q p)) (held_in q k)
  item k = held_item q.stamps q.values i p w k at

  mine : (k : ℕ) → p ≡ k → cond (eqb p k) (option_map (with_moment w) (held_in q p)) (held_in q k) ≡ option_map (with_moment w) (held_in q p)
  mine k e = ap (λ (b : Bool). cond b (option_map (with_moment w) (held_in q p)) (held_in q k)) (eq_true p k e)

  theirs : (k : ℕ) → p ≢ k → cond (eqb p k) (option_map (with_moment w) (held_in q p)) (held_in q k) ≡ held_in q k
  theirs k ne = ap (λ (b : Bool). cond b (option_map (with_moment w) (held_in q p)) (held_in q k)) (eq_false p k ne)

  was : (x : ℕ × T) → option_map (with_moment w) (held_in q p) ≡ Some x → (y : ℕ × T) × (held_in q p ≡ Some y) × (with_moment w y ≡ x)
  was x is = pick (held_in q p) refl is where
    pick : (o : Option (ℕ × T)) → held_in q p ≡ o → option_map (with_moment w) o ≡ Some x → (y : ℕ × T) × (held_in q p ≡ Some y) × (with_moment w y ≡ x)
    pick None a b = absurd (let no : None ≡ Some x = b in cc)
    pick (Some y) a b = (y, a, let both : Some (with_moment w y) ≡ Some x = b in cc)

  other_value : (o : Option (ℕ × T)) → last_under p past.events ≡ o → last_under p (map (revalued_event p w) past.events) ≡ option_map (with_moment w) o
  other_value o e = changed.under_same p w past.events ∙ ap (λ (y : Option (ℕ × T)). option_map (with_moment w) y) e

  far : (k : ℕ) → p ≢ k → last_under k (map (revalued_event p w) past.events) ≡ last_under k past.events
  far k ne = changed.under_other p w k past.events (λ e. ne (sym e))

  true_at : (k : ℕ) (x : ℕ × T) → cond (eqb p k) (option_map (with_moment w) (held_in q p)) (held_in q k) ≡ Some x → last_under k (map (revalued_event p w) past.events) ≡ Some x
  true_at k x is = ⊎_elim
      (λ (e : p ≡ k).
      let y = was x (sym (mine k e) ∙ is) in
      ap (λ (n : ℕ). last_under n (map (revalued_event p w) past.events)) (sym e) ∙ other_value (Some y.0) (h.true_to p y.0 y.1) ∙ ap (λ (z : ℕ × T). Some z) y.2)
      (λ (ne : p ≢ k). far k ne ∙ h.true_to k x (sym (theirs k ne) ∙ is))
      (cases_eq p k)

  keeps_at : (k : ℕ) (x : ℕ × T) → last_under k (map (revalued_event p w) past.events) ≡ Some x → (held_in (with_item q (Some i) w) k ≡ Some x) ⊎ MayGo (revalued past p w) k x.0
  keeps_at k x is = ⊎_elim
      (λ (e : p ≡ k). here e (last_under p past.events) refl)
      (λ (ne : p ≢ k). ⊎_elim
      (λ (y : held_in q k ≡ Some x). inl (item k ∙ theirs k ne ∙ y))
      (λ (y : MayGo past k x.0). inr (changed.may_go past p w k x.0 y))
      (h.keeps k x (sym (far k ne) ∙ is)))
      (cases_eq p k) where
        here : p ≡ k → (o : Option (ℕ × T)) → last_under p past.events ≡ o → (held_in (with_item q (Some i) w) k ≡ Some x) ⊎ MayGo (revalued past p w) k x.0
        here e None l = absurd (let no : None ≡ Some x = sym (other_value None l) ∙ ap (λ (n : ℕ). last_under n (map (revalued_event p w) past.events)) e ∙ is in cc)
        here e (Some y) l =
            let both : Some (with_moment w y) ≡ Some x = sym (other_value (Some y) l) ∙ ap (λ (n : ℕ). last_under n (map (revalued_event p w) past.events)) e ∙ is in
            let same : with_moment w y ≡ x = cc in
            ⊎_elim
            (λ (z : held_in q p ≡ Some y). inl (item k ∙ mine k e ∙ ap (λ (o : Option (ℕ × T)). option_map (with_moment w) o) z ∙ both))
            (λ (z : MayGo past p y.0). inr (subst (λ (n : ℕ). MayGo (revalued past p w) n x.0) e (subst (λ (n : ℕ). MayGo (revalued past p w) p n) (ap (λ (a : ℕ × T). a.0) same) (changed.may_go past p w p y.0 z))))
            (h.keeps p y l)

  young_at : IsRising past.events → (k : ℕ) (x : ℕ × T) → cond (eqb p k) (option_map (with_moment w) (held_in q p)) (held_in q k) ≡ Some x → latest_eviction past.events ≤ x.0 + past.age
  young_at r k x is = ⊎_elim
      (λ (e : p ≡ k). let y = was x (sym (mine k e) ∙ is) in subst (λ (a : ℕ × T). latest_eviction past.events ≤ a.0 + past.age) y.2 (h.young r p y.0 y.1))
      (λ (ne : p ≢ k). h.young r k x (sym (theirs k ne) ∙ is))
      (cases_eq p k)

-- an eviction before the last changes nothing
pub late_stands : {T : Type 0} (added : AddsOneEvent T) (q : QueueStore T) (past : Past T) (now : ℕ) → StandsFor q past → now < q.timeout → StandsFor q (with_event past (evicted now))
late_stands {T} added q past now h late = record {
  ages = h.ages;
  sized = h.sized;
  timed = omega (arith, same, h.timed);
  paired = h.paired;
  true_to = λ k x is. added.under_evicted past.events now k ∙ h.true_to k x is;
  keeps = λ k x is. ⊎_elim
      (λ (w : held_in q k ≡ Some x). inl w)
      (λ (w : MayGo past k x.0). inr (added.may_go past (evicted now) k x.0 w))
      (h.keeps k x (sym (added.under_evicted past.events now k) ∙ is));
  newest = h.newest ∙ sym (added.newest past.events (evicted now));
  marked = λ m is. le m (next_position past.events) (next_position (past.events ++ evicted now ∷ [])) (h.marked m is) (grows added after_pushed past.events (evicted now));
  young = λ r k x is. subst (λ (n : ℕ). n ≤ x.0 + past.age) kept (h.young (added.rising past.events (evicted now) r) k x is);
} where
  le : (a b c : ℕ) → a ≤ b → b ≤ c → a ≤ c
  le a b c i j = omega arith

  same : latest_eviction (past.events ++ evicted now ∷ []) ≡ max (latest_eviction past.events) now
  same = added.greatest evicted_at past.events (evicted now)

  kept : latest_eviction past.events ≡ latest_eviction (past.events ++ evicted now ∷ [])
  kept = omega (arith, added.greatest evicted_at past.events (evicted now), h.timed, late)

-- a push that must be stored is looked at
pub must_take : {T : Type 0} (q : QueueStore T) (past : Past T) (p t : ℕ) → StandsFor q past → MustStore past p t → takes_push q p t ≡ true
must_take {T} q past p t h m = tests (is_under q.mark p) (low q.mark refl) where
  low : (o : Option ℕ) → q.mark ≡ o → is_under o p ≡ false
  low None e = refl
  low (Some n) e = let le : n ≤ next_position past.events = h.marked n e in let to : next_position past.events ≤ p = m.above in grind (arith, nat_tests)

  tests : (b : Bool) → b ≡ false → (nat_lt 0 q.age && (nat_le q.timeout t && not b)) ≡ true
  tests b e = let age : 0 < q.age = omega (arith, h.ages, m.aging) in let time : q.timeout ≤ t = omega (arith, h.timed, m.timely) in grind (arith, nat_tests)

pub taken_timely : {T : Type 0} (q : QueueStore T) (p t : ℕ) → takes_push q p t ≡ true → q.timeout ≤ t
taken_timely {T} q p t e = tests (not (is_under q.mark p)) e where
  tests : (b : Bool) → (nat_lt 0 q.age && (nat_le q.timeout t && b)) ≡ true → q.timeout ≤ t
  tests b k = grind (arith, nat_tests)
