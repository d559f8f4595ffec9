-- What one event more changes, and what is known of the value that was stored last under a position.
use Rattle.std.proofs.Common.{◌≡◌, ◌≢◌, ℕ, ◌+◌, ◌<◌, ◌≤◌, Bool, true, false, cond, eqb, List, [], ◌∷◌, ◌++◌, refl, sym, ap, ◌∙◌, arith, max, inl, inr, ⊎_elim, ◌⊎◌, Option, Some, None}
use Rattle.std.proofs.lemmas.Bool.Decides.{nat_tests}
use Rattle.resend_core.specs.ResendStore.{Event, pushed, evicted, Past, with_event, size_of, latter, greatest_by, last_by, stored_under, last_under, stored_position, greatest_stored, after_pushed, next_position, evicted_at, latest_eviction, RisesFrom, IsRising, MayGo}

pub greatest_by-push : {T : Type 0} (f : Event T → ℕ) (es : List (Event T)) (e : Event T) → greatest_by f (es ++ e ∷ []) ≡ max (greatest_by f es) (f e)
greatest_by-push f [] e = omega arith
greatest_by-push f (x ∷ es) e = omega (arith, greatest_by-push f es e)

pub greatest_by_grows : {T : Type 0} (f : Event T → ℕ) (es : List (Event T)) (e : Event T) → greatest_by f es ≤ greatest_by f (es ++ e ∷ [])
greatest_by_grows f es e = omega (arith, greatest_by-push f es e)

latter_none : {A : Type 0} (o : Option A) → latter None o ≡ o
latter_none None = refl
latter_none (Some x) = refl

latter_assoc : {A : Type 0} (a b c : Option A) → latter a (latter b c) ≡ latter (latter a b) c
latter_assoc a b None = refl
latter_assoc a b (Some x) = refl

pub last_by-push : {T A : Type 0} (f : Event T → Option A) (es : List (Event T)) (e : Event T) → last_by f (es ++ e ∷ []) ≡ latter (last_by f es) (f e)
last_by-push f [] e = sym (latter_none (f e))
last_by-push {T} {A} f (x ∷ es) e = ap (λ (o : Option A). latter (f x) o) (last_by-push f es e) ∙ latter_assoc (f x) (last_by f es) (f e)

same_true : (n : ℕ) → eqb n n ≡ true
same_true n = grind (arith, nat_tests)

pub under_same : {T : Type 0} (es : List (Event T)) (p t : ℕ) (v : T) → last_under p (es ++ pushed p t v true ∷ []) ≡ Some (t, v)
under_same {T} es p t v = last_by-push (stored_under p) es (pushed p t v true) ∙ ap (λ (b : Bool). latter (last_under p es) (cond b (Some (t, v)) None)) (same_true p)

pub under_other : {T : Type 0} (es : List (Event T)) (p t : ℕ) (v : T) (q : ℕ) → q ≢ p → last_under q (es ++ pushed p t v true ∷ []) ≡ last_under q es
under_other {T} es p t v q ne =
    let test : eqb p q ≡ false = grind (arith, nat_tests) in
    last_by-push (stored_under q) es (pushed p t v true) ∙ ap (λ (b : Bool). latter (last_under q es) (cond b (Some (t, v)) None)) test

pub under_ignored : {T : Type 0} (es : List (Event T)) (p t : ℕ) (v : T) (q : ℕ) → last_under q (es ++ pushed p t v false ∷ []) ≡ last_under q es
under_ignored es p t v q = last_by-push (stored_under q) es (pushed p t v false)

pub under_evicted : {T : Type 0} (es : List (Event T)) (now q : ℕ) → last_under q (es ++ evicted now ∷ []) ≡ last_under q es
under_evicted es now q = last_by-push (stored_under q) es (evicted now)

pub rises_front : {T : Type 0} (p t : ℕ) (es : List (Event T)) (e : Event T) → RisesFrom p t (es ++ e ∷ []) → RisesFrom p t es
rises_front p t [] e h = tt
rises_front p t (pushed q u v stored ∷ es) e h = (h.0, h.1, rises_front p t es e h.2)
rises_front p t (evicted u ∷ es) e h = rises_front p t es e h

pub rising_front : {T : Type 0} (es : List (Event T)) (e : Event T) → IsRising (es ++ e ∷ []) → IsRising es
rising_front [] e h = tt
rising_front (pushed q u v stored ∷ es) e h = (rises_front q u es e h.0, rising_front es e h.1)
rising_front (evicted u ∷ es) e h = rising_front es e h

-- the value under a position comes from one of the events
split_last : {T : Type 0} (p : ℕ) (e : Event T) (es : List (Event T)) (x : ℕ × T) → last_under p (e ∷ es) ≡ Some x → (stored_under p e ≡ Some x) ⊎ (last_under p es ≡ Some x)
split_last {T} p e es x h = pick (last_under p es) refl h where
  pick : (o : Option (ℕ × T)) → last_under p es ≡ o → latter (stored_under p e) o ≡ Some x → (stored_under p e ≡ Some x) ⊎ (last_under p es ≡ Some x)
  pick None is k = inl k
  pick (Some y) is k = inr (is ∙ k)

head_is : {T : Type 0} (p q t : ℕ) (v : T) (stored : Bool) (x : ℕ × T) → stored_under p (pushed q t v stored) ≡ Some x → (q ≡ p) × (t ≡ x.0) × (stored ≡ true)
head_is p q t v false x h = absurd (let not_so : None ≡ Some x = h in cc)
head_is {T} p q t v true x h = pick (eqb q p) refl h where
  pick : (b : Bool) → eqb q p ≡ b → cond b (Some (t, v)) None ≡ Some x → (q ≡ p) × (t ≡ x.0) × (true ≡ true)
  pick false is k = absurd (let not_so : None ≡ Some x = k in cc)
  pick true is k = let eq : ◌≡◌ {A = ℕ × T} (t, v) x = cc in (grind (arith, nat_tests), ap (λ (y : ℕ × T). y.0) eq, refl)

pub under_bound : {T : Type 0} (f : Event T → ℕ) (p n : ℕ) (es : List (Event T)) (x : ℕ × T) → ((e : Event T) (y : ℕ × T) → stored_under p e ≡ Some y → n ≤ f e) → last_under p es ≡ Some x → n ≤ greatest_by f es
under_bound f p n [] x all h = absurd (let not_so : None ≡ Some x = h in cc)
under_bound {T} f p n (e ∷ es) x all h =
    ⊎_elim
    (λ (k : stored_under p e ≡ Some x). left n (f e) (greatest_by f es) (all e x k))
    (λ (k : last_under p es ≡ Some x). right n (f e) (greatest_by f es) (under_bound f p n es x all k))
    (split_last p e es x h) where
      left : (a b c : ℕ) → a ≤ b → a ≤ max b c
      left a b c h = omega arith

      right : (a b c : ℕ) → a ≤ c → a ≤ max b c
      right a b c h = omega arith

at_stored : {T : Type 0} (p : ℕ) (e : Event T) (y : ℕ × T) → stored_under p e ≡ Some y → p ≤ stored_position e
at_stored p (evicted u) y h = absurd (let not_so : None ≡ Some y = h in cc)
at_stored p (pushed q t v false) y h = absurd (let not_so : None ≡ Some y = h in cc)
at_stored p (pushed q t v true) y h = let w = head_is p q t v true y h in at_most q p w.0 where
  at_most : (a b : ℕ) → a ≡ b → b ≤ a
  at_most a b h = omega arith

at_pushed : {T : Type 0} (p : ℕ) (e : Event T) (y : ℕ × T) → stored_under p e ≡ Some y → p + 1 ≤ after_pushed e
at_pushed p (evicted u) y h = absurd (let not_so : None ≡ Some y = h in cc)
at_pushed p (pushed q t v stored) y h = let w = head_is p q t v stored y h in at_most q p w.0 where
  at_most : (a b : ℕ) → a ≡ b → b + 1 ≤ a + 1
  at_most a b h = omega arith

pub under_stored : {T : Type 0} (p : ℕ) (es : List (Event T)) (x : ℕ × T) → last_under p es ≡ Some x → p ≤ greatest_stored es
under_stored p es x h = under_bound stored_position p p es x (at_stored p) h

pub under_next : {T : Type 0} (p : ℕ) (es : List (Event T)) (x : ℕ × T) → last_under p es ≡ Some x → p + 1 ≤ next_position es
under_next p es x h = under_bound after_pushed p (p + 1) es x (at_pushed p) h

-- where positions rise, a greater one was stored no earlier
rises_later : {T : Type 0} (p t q : ℕ) (es : List (Event T)) (x : ℕ × T) → RisesFrom p t es → last_under q es ≡ Some x → (p < q) × (t ≤ x.0)
rises_later p t q [] x r h = absurd (let not_so : None ≡ Some x = h in cc)
rises_later p t q (evicted u ∷ es) x r h = rises_later p t q es x r (sym (latter_none (last_under q es)) ∙ h)
rises_later {T} p t q (pushed k u v stored ∷ es) x r h =
    ⊎_elim
    (λ (w : stored_under q (pushed k u v stored) ≡ Some x). let i = head_is q k u v stored x w in (omega arith, omega arith))
    (λ (w : last_under q es ≡ Some x). rises_later p t q es x r.2 w)
    (split_last q (pushed k u v stored) es x h)

pub rising_order : {T : Type 0} (es : List (Event T)) (p q : ℕ) (x y : ℕ × T) → IsRising es → last_under p es ≡ Some x → last_under q es ≡ Some y → p < q → x.0 ≤ y.0
rising_order [] p q x y r h k lt = absurd (let not_so : None ≡ Some x = h in cc)
rising_order (evicted u ∷ es) p q x y r h k lt = rising_order es p q x y r (sym (latter_none (last_under p es)) ∙ h) (sym (latter_none (last_under q es)) ∙ k) lt
rising_order {T} (pushed n u v stored ∷ es) p q x y r h k lt =
    ⊎_elim
    (λ (a : stored_under p (pushed n u v stored) ≡ Some x).
    let i = head_is p n u v stored x a in
    ⊎_elim
    (λ (b : stored_under q (pushed n u v stored) ≡ Some y). let j = head_is q n u v stored y b in absurd (omega arith))
    (λ (b : last_under q es ≡ Some y). let j = rises_later n u q es y r.0 b in omega arith)
    (split_last q (pushed n u v stored) es y k))
    (λ (a : last_under p es ≡ Some x).
    let i = rises_later n u p es x r.0 a in
    ⊎_elim
    (λ (b : stored_under q (pushed n u v stored) ≡ Some y). let j = head_is q n u v stored y b in absurd (omega arith))
    (λ (b : last_under q es ≡ Some y). rising_order es p q x y r.1 a b lt)
    (split_last q (pushed n u v stored) es y k))
    (split_last p (pushed n u v stored) es x h)

-- what may go may go after one event more
pub may_go_more : {T : Type 0} (past : Past T) (e : Event T) (p t : ℕ) → MayGo past p t → MayGo (with_event past e) p t
may_go_more past e p t w =
    ⊎_elim
    (λ (old : t + past.age < latest_eviction past.events). inl (less t past.age (latest_eviction past.events) (latest_eviction (past.events ++ e ∷ [])) old (greatest_by_grows evicted_at past.events e)))
    (λ (far : p + size_of past ≤ greatest_stored past.events). inr (far_on p (size_of past) (greatest_stored past.events) (greatest_stored (past.events ++ e ∷ [])) far (greatest_by_grows stored_position past.events e)))
    w where
      less : (a b c d : ℕ) → a + b < c → c ≤ d → a + b < d
      less a b c d h k = omega arith

      far_on : (a b c d : ℕ) → a + b ≤ c → c ≤ d → a + b ≤ d
      far_on a b c d h k = omega arith
