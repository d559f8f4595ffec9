-- Amounts that were added at moments, and count for some time.
use Rattle.std.specs.Prelude.{◌≡◌, ℕ, ◌+◌, ◌-◌, List, [], ◌∷◌, sum_by, filter, nat_lt, nat_le, if◌then◌else◌}
use Rattle.std.specs.List.Sorted.{IsNonDecreasingBy}

-- what counts always; the moments and amounts that are held, in order of adding; and how long they count
pub record History : Type 0 where
  pub start : ℕ
  pub held : List (ℕ × ℕ)
  pub limit : ℕ

-- what all of them come to
abbrev pub amount_of : List (ℕ × ℕ) → ℕ
amount_of held = sum_by (λ p. p.1) held

-- the whole sum
abbrev pub total_of : History → ℕ
total_of h = h.start + amount_of h.held

-- the moments do not fall
abbrev pub IsUnfalling : List (ℕ × ℕ) → Type 0
IsUnfalling held = IsNonDecreasingBy (λ p. p.0) held

-- without what is older than the limit, up to the first that is not
abbrev pub purged : ℕ → ℕ → List (ℕ × ℕ) → List (ℕ × ℕ)
purged limit now [] = []
purged limit now (p ∷ held) = if nat_lt limit (now - p.0) then purged limit now held else p ∷ held

-- those that are not older than the limit
abbrev pub recent : ℕ → ℕ → List (ℕ × ℕ) → List (ℕ × ℕ)
recent limit now held = filter (λ p. nat_le (now - p.0) limit) held

-- what is held of these pushes by a history that was last purged at that moment
pub record StandsFor (h : History) (pushes : List (ℕ × ℕ)) (purged_at : ℕ) : Type 0 where
  pub unfalling : IsUnfalling pushes
  pub held : h.held ≡ recent h.limit purged_at pushes
