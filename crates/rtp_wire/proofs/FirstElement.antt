-- One turn of reading elements.
use Rattle.std.proofs.Common.{◌≡◌, ℕ, zero, suc, ◌+◌, ◌/◌, ◌%◌, ◌<◌, ◌≤◌, true, false, cond, List, [], ◌∷◌, length, take, drop, get_or, refl, ap, ◌∙◌, arith, ◌≢◌}
use Rattle.std.specs.Prelude.{nat_lt, ◌==◌, ◌||◌}
use Rattle.std.proofs.lemmas.Bool.Decides.{nat_tests}
use Rattle.rtp_wire.specs.Extensions.{one_byte_elements, two_byte_elements}

pub one_passed : (n : ℕ) (bs : List ℕ) → one_byte_elements n bs ≡ one_byte_elements 0 (drop n bs)
unfolding one_byte_elements
one_passed zero bs = refl
one_passed (suc n) [] = refl
one_passed (suc n) (b ∷ bs) = one_passed n bs

pub two_passed : (n : ℕ) (bs : List ℕ) → two_byte_elements n bs ≡ two_byte_elements 0 (drop n bs)
unfolding two_byte_elements
two_passed zero bs = refl
two_passed (suc n) [] = refl
two_passed (suc n) (b ∷ bs) = two_passed n bs

one_first : (b : ℕ) (bs : List ℕ)
    → one_byte_elements 0 (b ∷ bs) ≡ cond (b == 0) (one_byte_elements 0 bs) (cond (b / 16 == 15 || nat_lt (length bs) (b % 16 + 1)) [] ((b / 16, take (b % 16 + 1) bs) ∷ one_byte_elements (b % 16 + 1) bs))
unfolding one_byte_elements
one_first b bs = refl

pub one_padding : (bs : List ℕ) → one_byte_elements 0 (0 ∷ bs) ≡ one_byte_elements 0 bs
one_padding bs = one_first 0 bs

pub one_stop : (b : ℕ) (bs : List ℕ) → b ≢ 0 → b / 16 ≡ 15 → one_byte_elements 0 (b ∷ bs) ≡ []
one_stop b bs some stop =
    let first : (b == 0) ≡ false = grind (arith, nat_tests) in
    let last : (b / 16 == 15 || nat_lt (length bs) (b % 16 + 1)) ≡ true = grind (arith, nat_tests) in
    one_first b bs ∙ rw (first, last) refl

pub one_short : (b : ℕ) (bs : List ℕ) → b ≢ 0 → length bs < b % 16 + 1 → one_byte_elements 0 (b ∷ bs) ≡ []
one_short b bs some short =
    let first : (b == 0) ≡ false = grind (arith, nat_tests) in
    let last : (b / 16 == 15 || nat_lt (length bs) (b % 16 + 1)) ≡ true = grind (arith, nat_tests) in
    one_first b bs ∙ rw (first, last) refl

pub one_element : (b : ℕ) (bs : List ℕ) → b ≢ 0 → b / 16 ≢ 15 → b % 16 + 1 ≤ length bs → one_byte_elements 0 (b ∷ bs) ≡ (b / 16, take (b % 16 + 1) bs) ∷ one_byte_elements 0 (drop (b % 16 + 1) bs)
one_element b bs some on fits =
    let first : (b == 0) ≡ false = grind (arith, nat_tests) in
    let last : (b / 16 == 15 || nat_lt (length bs) (b % 16 + 1)) ≡ false = grind (arith, nat_tests) in
    one_first b bs ∙ rw (first, last) (ap (λ (l : List (ℕ × List ℕ)). (b / 16, take (b % 16 + 1) bs) ∷ l) (one_passed (b % 16 + 1) bs))

two_first : (b : ℕ) (bs : List ℕ)
    → two_byte_elements 0 (b ∷ bs) ≡ cond (b == 0) (two_byte_elements 0 bs) (cond (nat_lt (length bs) (get_or bs 0 0 + 1)) [] ((b, take (get_or bs 0 0) (drop 1 bs)) ∷ two_byte_elements (get_or bs 0 0 + 1) bs))
unfolding two_byte_elements
two_first b bs = refl

pub two_padding : (bs : List ℕ) → two_byte_elements 0 (0 ∷ bs) ≡ two_byte_elements 0 bs
two_padding bs = two_first 0 bs

pub two_short : (b : ℕ) (bs : List ℕ) → b ≢ 0 → length bs < get_or bs 0 0 + 1 → two_byte_elements 0 (b ∷ bs) ≡ []
two_short b bs some short =
    let first : (b == 0) ≡ false = grind (arith, nat_tests) in
    let last : nat_lt (length bs) (get_or bs 0 0 + 1) ≡ true = grind (arith, nat_tests) in
    two_first b bs ∙ rw (first, last) refl

pub two_element : (b : ℕ) (bs : List ℕ) → b ≢ 0 → get_or bs 0 0 + 1 ≤ length bs → two_byte_elements 0 (b ∷ bs) ≡ (b, take (get_or bs 0 0) (drop 1 bs)) ∷ two_byte_elements 0 (drop (get_or bs 0 0 + 1) bs)
two_element b bs some fits =
    let first : (b == 0) ≡ false = grind (arith, nat_tests) in
    let last : nat_lt (length bs) (get_or bs 0 0 + 1) ≡ false = grind (arith, nat_tests) in
    two_first b bs ∙ rw (first, last) (ap (λ (l : List (ℕ × List ℕ)). (b, take (get_or bs 0 0) (drop 1 bs)) ∷ l) (two_passed (get_or bs 0 0 + 1) bs))
