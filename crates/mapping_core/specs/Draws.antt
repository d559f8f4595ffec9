-- SSRCs that are drawn until one is free.
use Rattle.std.specs.Prelude.{◌≡◌, ◌≢◌, ℕ, zero, suc, Bool, false, not, ◌==◌, ◌&&◌, if◌then◌else◌, Option, Some, None}
use Rattle.rand_core.specs.Stream.{Stream, next_u32}
use Rattle.mapping_core.specs.declared.draw.TheConstants.{SSRC_DRAWS}

-- an SSRC is not 0 and not in use, and it is not the other one
abbrev pub is_apart : (ℕ → Bool) → ℕ → ℕ → Bool
is_apart used other n = not (n == other) && not (n == 0) && not (used n)

-- the first of so many draws that may be taken, if one of them may, and what the generator will answer from then on
unfoldable pub drawn : ℕ → (ℕ → Bool) → Stream → Option ℕ × Stream
drawn zero free s = (None, s)
drawn (suc k) free s = if free (next_u32 s).0 then (Some (next_u32 s).0, (next_u32 s).1) else drawn k free (next_u32 s).1

-- a second one beside the first, of 64 draws
abbrev pub drawn_beside : (ℕ → Bool) → Option ℕ × Stream → Option (ℕ × ℕ) × Stream
drawn_beside used (None, s) = (None, s)
drawn_beside used (Some n, s) = second (drawn SSRC_DRAWS (is_apart used n) s) where
  second : Option ℕ × Stream → Option (ℕ × ℕ) × Stream
  second (None, t) = (None, t)
  second (Some m, t) = (Some (n, m), t)

-- two SSRCs, the second one not the first, each of at most 64 draws
abbrev pub drawn_pair : (ℕ → Bool) → Stream → Option (ℕ × ℕ) × Stream
drawn_pair used s = drawn_beside used (drawn SSRC_DRAWS (is_apart used 0) s)

-- two SSRCs are apart, and neither is 0 or in use
pub record AreFree (used : ℕ → Bool) (n m : ℕ) : Type 0 where
  pub apart : n ≢ m
  pub first_some : n ≢ 0
  pub second_some : m ≢ 0
  pub first_free : used n ≡ false
  pub second_free : used m ≡ false
