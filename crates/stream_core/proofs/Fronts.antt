-- The first entry of a table.
use Rattle.std.proofs.Common.{◌≡◌, ℕ, ◌<◌, true, List, [], ◌∷◌, Some, length, slice_get, nat_eq, ap, arith, ◌∙◌}
use Rattle.stream_core.specs.Tables.{place_of}

-- a key that the first entry has stands there
pub place_first : {X : Type 0} (es : List (ℕ × X)) (k : ℕ) (e : ℕ × X) → slice_get es 0 ≡ Some e → nat_eq k e.0 ≡ true → Some 0 ≡ place_of k es
place_first [] k e at same = absurd cc
place_first (z ∷ es) k e at same =
    let z_is : z ≡ e = cc in
    let there : nat_eq k z.0 ≡ true = ap (λ (x : ℕ × _). nat_eq k x.0) z_is ∙ same in
    grind arith

pub some_first : {X : Type 0} (es : List (ℕ × X)) (e : ℕ × X) → slice_get es 0 ≡ Some e → 0 < length es
some_first [] e at = absurd cc
some_first (z ∷ es) e at = omega arith
