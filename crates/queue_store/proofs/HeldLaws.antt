-- What a queue holds after another value was put in the place of one: the laws of every store.
use Rattle.std.specs.Prelude.{◌≡◌, ◌≢◌, ℕ, suc, Bool, true, false, cond, List, [], ◌∷◌, slice_get, slice_set, Option, Some, None, option_map, option_and_then}
use Rattle.std.proofs.Common.{eqb, refl, sym, ap, ◌∙◌, arith, ⊎_elim}
use Rattle.std.proofs.lemmas.Bool.Decides.{nat_tests}
use Rattle.std.proofs.lemmas.Bool.{cases_eq}
use Rattle.resend_core.specs.ResendStore.{Past, MayGo, HeldAs}
use Rattle.queue_store.specs.declared.stamps.Stamp.{Stamp}
use Rattle.queue_store.specs.declared.queue.QueueStore.{QueueStore}
use Rattle.queue_store.specs.Queue.{index_of, held, held_in, StandsFor, value_at, with_item, with_value}
use Rattle.resend_core.specs.EventLaws.{with_moment}

pub eq_true : (a b : ℕ) → a ≡ b → eqb a b ≡ true
eq_true a b e = grind (arith, nat_tests)

pub eq_false : (a b : ℕ) → a ≢ b → eqb a b ≡ false
eq_false a b e = grind (arith, nat_tests)

pub eq_is : (a b : ℕ) → eqb a b ≡ true → a ≡ b
eq_is a b e = grind (arith, nat_tests)

-- the value of a position is that of its index
pub held_index : {T : Type 0} (l : List Stamp) (vs : List T) (p : ℕ) → option_map (λ (x : ℕ × T). x.1) (held l vs p) ≡ option_and_then (slice_get vs) (index_of l p)
held_index [] vs p = refl
held_index {T} (s ∷ ss) [] p = pick (cond (eqb s.position p) (Some 0) (option_map (λ i. suc i) (index_of ss p))) where
  pick : (o : Option ℕ) → ◌≡◌ {A = Option T} None (option_and_then (slice_get []) o)
  pick None = refl
  pick (Some i) = refl
held_index {T} (s ∷ ss) (v ∷ vs) p = pick (eqb s.position p) (held_index ss vs p) where
  next : (o : Option ℕ) → option_and_then (slice_get vs) o ≡ option_and_then (slice_get (v ∷ vs)) (option_map (λ i. suc i) o)
  next None = refl
  next (Some i) = refl

  pick : (b : Bool) → option_map (λ (x : ℕ × T). x.1) (held ss vs p) ≡ option_and_then (slice_get vs) (index_of ss p)
      → option_map (λ (x : ℕ × T). x.1) (cond b (Some (s.moment, v)) (held ss vs p)) ≡ option_and_then (slice_get (v ∷ vs)) (cond b (Some 0) (option_map (λ i. suc i) (index_of ss p)))
  pick true rest = refl
  pick false rest = rest ∙ next (index_of ss p)

-- what is held after another value was put at the index of a position
pub held_item : {T : Type 0} (l : List Stamp) (vs : List T) (i p : ℕ) (w : T) (k : ℕ) → index_of l p ≡ Some i → held l (slice_set vs i w) k ≡ cond (eqb p k) (option_map (with_moment w) (held l vs p)) (held l vs k)
held_item [] vs i p w k is = absurd (let not_so : None ≡ Some i = is in cc)
held_item {T} (s ∷ ss) [] i p w k is = pick (eqb p k) where
  pick : (b : Bool) → ◌≡◌ {A = Option (ℕ × T)} None (cond b None None)
  pick true = refl
  pick false = refl
held_item {T} (s ∷ ss) (v ∷ vs) i p w k is =
    ⊎_elim
    (λ (e : s.position ≡ p). here e (index_here (index_of ss p) (eq_true s.position p e) is))
    (λ (ne : s.position ≢ p). there ne (λ j o. held_item ss vs j p w k o) (index_there (index_of ss p) (eq_false s.position p ne) is))
    (cases_eq s.position p) where
      index_here : (o : Option ℕ) → eqb s.position p ≡ true → cond (eqb s.position p) (Some 0) (option_map (λ j. suc j) o) ≡ Some i → i ≡ 0
      index_here o t h = let same : Some 0 ≡ Some i = sym (ap (λ (b : Bool). cond b (Some 0) (option_map (λ j. suc j) o)) t) ∙ h in cc

      index_there : (o : Option ℕ) → eqb s.position p ≡ false → cond (eqb s.position p) (Some 0) (option_map (λ j. suc j) o) ≡ Some i → (j : ℕ) × (o ≡ Some j) × (i ≡ suc j)
      index_there None t h = absurd (let no : None ≡ Some i = sym (ap (λ (b : Bool). cond b (Some 0) None) t) ∙ h in cc)
      index_there (Some j) t h = let same : Some (suc j) ≡ Some i = sym (ap (λ (b : Bool). cond b (Some 0) (Some (suc j))) t) ∙ h in (j, refl, cc)

      here : s.position ≡ p → i ≡ 0 → held (s ∷ ss) (slice_set (v ∷ vs) i w) k ≡ cond (eqb p k) (option_map (with_moment w) (held (s ∷ ss) (v ∷ vs) p)) (held (s ∷ ss) (v ∷ vs) k)
      here e zero_is =
          ap (λ (n : ℕ). held (s ∷ ss) (slice_set (v ∷ vs) n w) k) zero_is
          ∙ ap (λ (n : ℕ). cond (eqb n k) (Some (s.moment, w)) (held ss vs k)) e
          ∙ pick (eqb p k) refl where
            pick : (b : Bool) → eqb p k ≡ b → cond b (Some (s.moment, w)) (held ss vs k) ≡ cond b (option_map (with_moment w) (cond (eqb s.position p) (Some (s.moment, v)) (held ss vs p))) (cond (eqb s.position k) (Some (s.moment, v)) (held ss vs k))
            pick true t = sym (ap (λ (b : Bool). option_map (with_moment w) (cond b (Some (s.moment, v)) (held ss vs p))) (eq_true s.position p e))
            pick false t = sym (ap (λ (n : ℕ). cond (eqb n k) (Some (s.moment, v)) (held ss vs k)) e ∙ ap (λ (b : Bool). cond b (Some (s.moment, v)) (held ss vs k)) t)

      there : s.position ≢ p → ((j : ℕ) → index_of ss p ≡ Some j → held ss (slice_set vs j w) k ≡ cond (eqb p k) (option_map (with_moment w) (held ss vs p)) (held ss vs k)) → (j : ℕ) × (index_of ss p ≡ Some j) × (i ≡ suc j)
          → held (s ∷ ss) (slice_set (v ∷ vs) i w) k ≡ cond (eqb p k) (option_map (with_moment w) (held (s ∷ ss) (v ∷ vs) p)) (held (s ∷ ss) (v ∷ vs) k)
      there ne rest at =
          ap (λ (n : ℕ). held (s ∷ ss) (slice_set (v ∷ vs) n w) k) at.2
          ∙ ap (λ (o : Option (ℕ × T)). cond (eqb s.position k) (Some (s.moment, v)) o) (rest at.0 at.1)
          ∙ pick (eqb p k) refl
          ∙ sym (ap (λ (b : Bool). cond (eqb p k) (option_map (with_moment w) (cond b (Some (s.moment, v)) (held ss vs p))) (held (s ∷ ss) (v ∷ vs) k)) (eq_false s.position p ne)) where
            pick : (b : Bool) → eqb p k ≡ b → cond (eqb s.position k) (Some (s.moment, v)) (cond b (option_map (with_moment w) (held ss vs p)) (held ss vs k)) ≡ cond b (option_map (with_moment w) (held ss vs p)) (cond (eqb s.position k) (Some (s.moment, v)) (held ss vs k))
            pick true t = ap (λ (b : Bool). cond b (Some (s.moment, v)) (option_map (with_moment w) (held ss vs p))) (eq_false s.position k (λ f. ne (f ∙ sym (eq_is p k t))))
            pick false t = refl

-- what is held under a position is what the past lets be held
pub held_as : {T : Type 0} (q : QueueStore T) (past : Past T) (p : ℕ) → StandsFor q past → HeldAs past p (value_at q p)
unfolding value_at
held_as {T} q past p h = pick (held_in q p) refl where
  pick : (o : Option (ℕ × T)) → held_in q p ≡ o → HeldAs past p (option_map (λ (x : ℕ × T). x.1) o)
  pick None is = λ t v last. ⊎_elim
      (λ (k : held_in q p ≡ Some (t, v)). absurd (none_some (t, v) (sym is ∙ k)))
      (λ (k : MayGo past p t). k)
      (h.keeps p (t, v) last) where
        none_some : (x : ℕ × T) → None ≡ Some x → ⊥
        none_some x k = cc
  pick (Some x) is = (x.0, h.true_to p x is, λ r. h.young r p x is)

-- where a value is held it has an index
has_index : {T : Type 0} (q : QueueStore T) (p : ℕ) (v : T) → value_at q p ≡ Some v → (i : ℕ) × (index_of q.stamps p ≡ Some i)
unfolding value_at
has_index {T} q p v is = pick (index_of q.stamps p) refl (sym (held_index q.stamps q.values p) ∙ is) where
  pick : (o : Option ℕ) → index_of q.stamps p ≡ o → option_and_then (slice_get q.values) o ≡ Some v → (i : ℕ) × (index_of q.stamps p ≡ Some i)
  pick None k l = absurd (let no : None ≡ Some v = l in cc)
  pick (Some i) k l = (i, k)

pub value_here : {T : Type 0} (q : QueueStore T) (p : ℕ) (v w : T) → value_at q p ≡ Some v → value_at (with_value q p w) p ≡ Some w
unfolding value_at with_value
value_here {T} q p v w is =
    let at = has_index q p v is in
    ap (λ (o : Option ℕ). option_map (λ (x : ℕ × T). x.1) (held_in (with_item q o w) p)) at.1
    ∙ ap (λ (o : Option (ℕ × T)). option_map (λ (x : ℕ × T). x.1) o)
    (held_item q.stamps q.values at.0 p w p at.1 ∙ ap (λ (b : Bool). cond b (option_map (with_moment w) (held_in q p)) (held_in q p)) (eq_true p p refl))
    ∙ pick (held_in q p) is where
      pick : (o : Option (ℕ × T)) → option_map (λ (x : ℕ × T). x.1) o ≡ Some v → option_map (λ (x : ℕ × T). x.1) (option_map (with_moment w) o) ≡ Some w
      pick None k = absurd (let no : None ≡ Some v = k in cc)
      pick (Some x) k = refl

pub value_other : {T : Type 0} (q : QueueStore T) (p k : ℕ) (v w : T) → value_at q p ≡ Some v → (k ≡ p → ⊥) → value_at (with_value q p w) k ≡ value_at q k
unfolding value_at with_value
value_other {T} q p k v w is ne =
    let at = has_index q p v is in
    ap (λ (o : Option ℕ). option_map (λ (x : ℕ × T). x.1) (held_in (with_item q o w) k)) at.1
    ∙ ap (λ (o : Option (ℕ × T)). option_map (λ (x : ℕ × T). x.1) o)
    (held_item q.stamps q.values at.0 p w k at.1 ∙ ap (λ (b : Bool). cond b (option_map (with_moment w) (held_in q p)) (held_in q k)) (eq_false p k (λ e. ne (sym e))))
