-- Two texts in two parts each.
use Rattle.std.proofs.Common.{◌≡◌, ℕ, ◌≤◌, List, ◌++◌, length, take, drop, arith, refl, sym, ap, ◌∙◌}
use Rattle.std.proofs.lemmas.List.{take_at, drop_at, length-take, length-append}

pub length-front : (n : ℕ) (bytes : List ℕ) → n ≤ length bytes → length (take n bytes) ≡ n
length-front n bytes h = omega (arith, length-take n bytes)

-- with fronts of one length
pub front_same : (a b c d : List ℕ) → length a ≡ length b → a ++ c ≡ b ++ d → a ≡ b
front_same a b c d h e = sym (take_at a c (length b) h) ∙ ap (take (length b)) e ∙ take_at b d (length b) refl

pub back_same : (a b c d : List ℕ) → length a ≡ length b → a ++ c ≡ b ++ d → c ≡ d
back_same a b c d h e = sym (drop_at a c (length b) h) ∙ ap (drop (length b)) e ∙ drop_at b d (length b) refl

-- with backs of one length
pub front_of : (a b c d : List ℕ) → length c ≡ length d → a ++ c ≡ b ++ d → a ≡ b
front_of a b c d h e = front_same a b c d (omega (arith, length-append a c, length-append b d, ap length e)) e

pub back_of : (a b c d : List ℕ) → length c ≡ length d → a ++ c ≡ b ++ d → c ≡ d
back_of a b c d h e = back_same a b c d (omega (arith, length-append a c, length-append b d, ap length e)) e
