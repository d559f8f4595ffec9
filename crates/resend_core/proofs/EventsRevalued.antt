-- What another value under a position changes.
use Rattle.std.proofs.Common.{◌≡◌, ◌≢◌, ℕ, ◌+◌, ◌<◌, ◌≤◌, Bool, true, false, cond, eqb, List, [], ◌∷◌, refl, sym, ap, ◌∙◌, subst, arith, map, max, inl, inr, ⊎_elim, Option, Some, None}
use Rattle.std.proofs.lemmas.Bool.Decides.{nat_tests}
use Rattle.std.specs.Prelude.{option_map}
use Rattle.std.proofs.lemmas.Bool.{cases_eq}
use Rattle.resend_core.specs.ResendStore.{Event, pushed, evicted, Past, revalued_event, revalued, size_of, latter, greatest_by, last_by, stored_under, last_under, stored_at, stored_position, greatest_stored, after_pushed, evicted_at, latest_eviction, RisesFrom, IsRising, MayGo}
use Rattle.resend_core.specs.EventLaws.{with_moment}

-- what the events give but for the values
pub greatest_same : {T : Type 0} (f : Event T → ℕ) (p : ℕ) (w : T) (es : List (Event T)) → ((e : Event T) → f (revalued_event p w e) ≡ f e) → greatest_by f (map (revalued_event p w) es) ≡ greatest_by f es
greatest_same f p w [] same = refl
greatest_same f p w (e ∷ es) same = ap (λ (n : ℕ). max n (greatest_by f (map (revalued_event p w) es))) (same e) ∙ ap (λ (n : ℕ). max (f e) n) (greatest_same f p w es same)

pub last_same : {T A : Type 0} (f : Event T → Option A) (p : ℕ) (w : T) (es : List (Event T)) → ((e : Event T) → f (revalued_event p w e) ≡ f e) → last_by f (map (revalued_event p w) es) ≡ last_by f es
last_same f p w [] same = refl
last_same {T} {A} f p w (e ∷ es) same = ap (λ (o : Option A). latter o (last_by f (map (revalued_event p w) es))) (same e) ∙ ap (λ (o : Option A). latter (f e) o) (last_same f p w es same)

pub stored_position_same : {T : Type 0} (p : ℕ) (w : T) (e : Event T) → stored_position (revalued_event p w e) ≡ stored_position e
stored_position_same p w (pushed q t v s) = refl
stored_position_same p w (evicted t) = refl

pub after_same : {T : Type 0} (p : ℕ) (w : T) (e : Event T) → after_pushed (revalued_event p w e) ≡ after_pushed e
after_same p w (pushed q t v s) = refl
after_same p w (evicted t) = refl

pub evicted_same : {T : Type 0} (p : ℕ) (w : T) (e : Event T) → evicted_at (revalued_event p w e) ≡ evicted_at e
evicted_same p w (pushed q t v s) = refl
evicted_same p w (evicted t) = refl

pub at_same : {T : Type 0} (p : ℕ) (w : T) (e : Event T) → stored_at (revalued_event p w e) ≡ stored_at e
at_same p w (pushed q t v s) = refl
at_same p w (evicted t) = refl

rises_same : {T : Type 0} (p : ℕ) (w : T) (q t : ℕ) (es : List (Event T)) → RisesFrom q t (map (revalued_event p w) es) → RisesFrom q t es
rises_same p w q t [] r = tt
rises_same p w q t (pushed k u v s ∷ es) r = (r.0, r.1, rises_same p w q t es r.2)
rises_same p w q t (evicted u ∷ es) r = rises_same p w q t es r

pub rising_same : {T : Type 0} (p : ℕ) (w : T) (es : List (Event T)) → IsRising (map (revalued_event p w) es) → IsRising es
rising_same p w [] r = tt
rising_same p w (pushed k u v s ∷ es) r = (rises_same p w k u es r.0, rising_same p w es r.1)
rising_same p w (evicted u ∷ es) r = rising_same p w es r

-- under another position nothing changes
pub under_far : {T : Type 0} (p : ℕ) (w : T) (q : ℕ) → q ≢ p → (e : Event T) → stored_under q (revalued_event p w e) ≡ stored_under q e
under_far p w q ne (evicted t) = refl
under_far {T} p w q ne (pushed k t v false) = refl
under_far {T} p w q ne (pushed k t v true) =
    ⊎_elim
    (λ (is : k ≡ p). let other : eqb k q ≡ false = grind (arith, nat_tests) in ap (λ (b : Bool). cond b (Some (t, cond (eqb k p) w v)) None) other ∙ sym (ap (λ (b : Bool). cond b (Some (t, v)) None) other))
    (λ (no_p : k ≢ p). let other : eqb k p ≡ false = grind (arith, nat_tests) in ap (λ (b : Bool). cond (eqb k q) (Some (t, cond b w v)) None) other)
    (cases_eq k p)

under_here : {T : Type 0} (p : ℕ) (w : T) (e : Event T) → stored_under p (revalued_event p w e) ≡ option_map (with_moment w) (stored_under p e)
under_here p w (evicted t) = refl
under_here p w (pushed k t v false) = refl
under_here {T} p w (pushed k t v true) = pick (eqb k p) where
  pick : (b : Bool) → cond b (Some (t, cond b w v)) None ≡ option_map (with_moment w) (cond b (Some (t, v)) None)
  pick true = refl
  pick false = refl

latter_map : {A : Type 0} (f : A → A) (a b : Option A) → option_map f (latter a b) ≡ latter (option_map f a) (option_map f b)
latter_map f a None = refl
latter_map f a (Some x) = refl

pub under_all : {T : Type 0} (p : ℕ) (w : T) (es : List (Event T)) → last_under p (map (revalued_event p w) es) ≡ option_map (with_moment w) (last_under p es)
under_all p w [] = refl
under_all {T} p w (e ∷ es) =
    ap (λ (o : Option (ℕ × T)). latter o (last_under p (map (revalued_event p w) es))) (under_here p w e)
    ∙ ap (λ (o : Option (ℕ × T)). latter (option_map (with_moment w) (stored_under p e)) o) (under_all p w es)
    ∙ sym (latter_map (with_moment w) (stored_under p e) (last_under p es))

pub may_go_same : {T : Type 0} (past : Past T) (p : ℕ) (w : T) (q t : ℕ) → MayGo past q t → MayGo (revalued past p w) q t
may_go_same past p w q t go =
    ⊎_elim
    (λ (old : t + past.age < latest_eviction past.events). inl (subst (λ (n : ℕ). t + past.age < n) (sym (greatest_same evicted_at p w past.events (evicted_same p w))) old))
    (λ (far : q + size_of past ≤ greatest_stored past.events). inr (subst (λ (n : ℕ). q + size_of past ≤ n) (sym (greatest_same stored_position p w past.events (stored_position_same p w))) far))
    go
