-- Laws of what happened to a store: what one event more changes, and what another value under a position.
use Rattle.std.specs.Prelude.{◌≡◌, ◌≢◌, ℕ, ◌+◌, ◌<◌, ◌≤◌, true, false, max, map, List, [], ◌∷◌, ◌++◌, Some, option_map}
use Rattle.resend_core.specs.ResendStore.{Event, pushed, evicted, Past, with_event, revalued_event, revalued, latter, greatest_by, last_under, stored_at, last_position, greatest_stored, next_position, latest_eviction, IsRising, MayGo}

-- One event more: what it gives comes behind what the others gave, a value that is stored is the last under its own position
-- alone, and what may go may go after it.
pub record AddsOneEvent (T : Type 0) : Type 0 where
  pub greatest : (f : Event T → ℕ) (es : List (Event T)) (e : Event T) → greatest_by f (es ++ e ∷ []) ≡ max (greatest_by f es) (f e)
  pub newest : (es : List (Event T)) (e : Event T) → last_position (es ++ e ∷ []) ≡ latter (last_position es) (stored_at e)
  pub under_same : (es : List (Event T)) (p t : ℕ) (v : T) → last_under p (es ++ pushed p t v true ∷ []) ≡ Some (t, v)
  pub under_other : (es : List (Event T)) (p t : ℕ) (v : T) (q : ℕ) → q ≢ p → last_under q (es ++ pushed p t v true ∷ []) ≡ last_under q es
  pub under_ignored : (es : List (Event T)) (p t : ℕ) (v : T) (q : ℕ) → last_under q (es ++ pushed p t v false ∷ []) ≡ last_under q es
  pub under_evicted : (es : List (Event T)) (now q : ℕ) → last_under q (es ++ evicted now ∷ []) ≡ last_under q es
  pub rising : (es : List (Event T)) (e : Event T) → IsRising (es ++ e ∷ []) → IsRising es
  pub may_go : (past : Past T) (e : Event T) (p t : ℕ) → MayGo past p t → MayGo (with_event past e) p t

-- A position under which a value was stored is no greater than the greatest stored one, and below the next; and where
-- positions rise, what was stored last under a greater one was stored no earlier.
pub record StoresUnder (T : Type 0) : Type 0 where
  pub within : (p : ℕ) (es : List (Event T)) (x : ℕ × T) → last_under p es ≡ Some x → p ≤ greatest_stored es
  pub below : (p : ℕ) (es : List (Event T)) (x : ℕ × T) → last_under p es ≡ Some x → p + 1 ≤ next_position es
  pub order : (es : List (Event T)) (p q : ℕ) (x y : ℕ × T) → IsRising es → last_under p es ≡ Some x → last_under q es ≡ Some y → p < q → x.0 ≤ y.0

-- the moment of one, with another value
abbrev pub with_moment : {T : Type 0} → T → ℕ × T → ℕ × T
with_moment w x = (x.0, w)

-- Another value under a position: what was stored there last has it, with its moment, and nothing else changes.
pub record ChangesOneValue (T : Type 0) : Type 0 where
  pub next : (p : ℕ) (w : T) (es : List (Event T)) → next_position (map (revalued_event p w) es) ≡ next_position es
  pub evictions : (p : ℕ) (w : T) (es : List (Event T)) → latest_eviction (map (revalued_event p w) es) ≡ latest_eviction es
  pub newest : (p : ℕ) (w : T) (es : List (Event T)) → last_position (map (revalued_event p w) es) ≡ last_position es
  pub rising : (p : ℕ) (w : T) (es : List (Event T)) → IsRising (map (revalued_event p w) es) → IsRising es
  pub under_same : (p : ℕ) (w : T) (es : List (Event T)) → last_under p (map (revalued_event p w) es) ≡ option_map (with_moment w) (last_under p es)
  pub under_other : (p : ℕ) (w : T) (q : ℕ) (es : List (Event T)) → q ≢ p → last_under q (map (revalued_event p w) es) ≡ last_under q es
  pub may_go : (past : Past T) (p : ℕ) (w : T) (q t : ℕ) → MayGo past q t → MayGo (revalued past p w) q t
