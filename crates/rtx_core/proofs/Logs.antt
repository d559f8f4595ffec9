-- Bytes that were sent, with one entry more or less.
use Rattle.std.proofs.Common.{◌≡◌, ℕ, ◌+◌, List, [], ◌∷◌, ◌++◌, arith}
use Rattle.rtx_core.specs.Ratio.{bytes_in}

pub bytes_snoc : (es : List (ℕ × ℕ)) (e : ℕ × ℕ) → bytes_in (es ++ e ∷ []) ≡ bytes_in es + e.1
bytes_snoc [] e = omega arith
bytes_snoc (x ∷ es) e = omega (arith, bytes_snoc es e)
