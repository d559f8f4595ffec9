-- Lists of what is asked for.
use Rattle.std.proofs.Common.{◌≡◌, ℕ, suc, false, List, [], ◌∷◌, map, refl, arith}
use Rattle.std.specs.Prelude.{◌==◌}
use Rattle.std.proofs.lemmas.Bool.Decides.{nat_tests}
use Rattle.rtx_core.specs.declared.resend.Resend.{Resend}

pub suc_asked : (n : ℕ) → (suc n == 0) ≡ false
suc_asked n = grind (arith, nat_tests)

-- the numbers that are asked for
abbrev pub numbers_in : List Resend → List ℕ
numbers_in rs = map (λ (r : Resend). r.seq_no) rs

pub no_numbers : (rs : List Resend) → numbers_in rs ≡ [] → rs ≡ []
no_numbers [] e = refl
no_numbers (r ∷ rs) e = absurd cc
