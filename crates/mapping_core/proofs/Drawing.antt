-- How a draw goes on.
use Rattle.std.proofs.Common.{◌≡◌, ℕ, zero, suc, ◌+◌, ◌<◌, Bool, true, false, Some, None, refl, arith}
use Rattle.rand_core.specs.Stream.{Stream, next_u32}
use Rattle.mapping_core.specs.Draws.{drawn}

-- the next number may be taken
pub drawn_at_once : (n : ℕ) (free : ℕ → Bool) (s : Stream) (r m : ℕ) (t : Stream) → 0 < n → (r, t) ≡ next_u32 s → m ≡ r → free m ≡ true
    → (Some m, t) ≡ drawn n free s
unfolding drawn
drawn_at_once zero free s r m t h e same ok = absurd (omega (arith, h))
drawn_at_once (suc k) free s r m t h e same ok = grind (arith, e, same, ok)

-- it may not, and the others are tried
pub drawn_later : (n k : ℕ) (free : ℕ → Bool) (s : Stream) (r m : ℕ) (t : Stream) → n ≡ k + 1 → (r, t) ≡ next_u32 s → m ≡ r → free m ≡ false
    → drawn n free s ≡ drawn k free t
unfolding drawn
drawn_later zero k free s r m t h e same other = absurd (omega (arith, h))
drawn_later (suc n) k free s r m t h e same other = grind (arith, h, e, same, other)

-- none may be taken where no try is left
pub drawn_none : (n : ℕ) (free : ℕ → Bool) (s : Stream) → n ≡ 0 → (None, s) ≡ drawn n free s
unfolding drawn
drawn_none zero free s h = refl
drawn_none (suc n) free s h = absurd (omega (arith, h))
