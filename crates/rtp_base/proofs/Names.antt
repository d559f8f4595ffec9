-- A name is text, and what is kept of it gives it back.
use Rattle.std.proofs.Common.{◌≡◌, ℕ, zero, suc, ◌-◌, ◌≤◌, true, List, [], ◌∷◌, ◌++◌, length, replicate, refl, arith}
use Rattle.std.specs.Prelude.{nat_lt}
use Rattle.std.specs.List.{list_all}
use Rattle.std.specs.Str.{IsUtf8, IsAscii}
use Rattle.std.proofs.lemmas.Str.{IsUtf8-from_ascii}
use Rattle.std.proofs.lemmas.Bool.Decides.{nat_tests}
use Rattle.std.proofs.lemmas.List.{take_at, length-append, length-replicate}
use Rattle.rtp_base.specs.Name.{is_name, IsKeptName}

all_ascii : (bs : List ℕ) → list_all (λ b. nat_lt b 128) bs ≡ true → IsAscii bs
all_ascii [] h i = omega arith
all_ascii (x ∷ xs) h zero = grind (arith, nat_tests)
all_ascii (x ∷ xs) h (suc i) = all_ascii xs (grind (arith, nat_tests)) i

pub name_is_text : (bs : List ℕ) → is_name bs ≡ true → IsUtf8 bs
name_is_text bs h = IsUtf8-from_ascii bs (all_ascii bs (grind (arith, nat_tests)))

pub kept_is_name : (bs : List ℕ) → is_name bs ≡ true → IsKeptName (bs ++ replicate (16 - length bs) 0) (length bs)
kept_is_name bs h =
    let long : length bs ≤ 16 = grind (arith, nat_tests) in
    record {
      long = omega (arith, length-append bs (replicate (16 - length bs) 0), length-replicate {A = ℕ} (16 - length bs) 0);
      zeros = rw (take_at bs (replicate (16 - length bs) 0) (length bs) refl) refl;
      name = rw (take_at bs (replicate (16 - length bs) 0) (length bs) refl) h;
      within = long;
    }
