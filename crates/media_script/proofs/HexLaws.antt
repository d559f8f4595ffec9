-- Hex text, as the crate hex encodes it.
use Rattle.std.proofs.Common.{◌≡◌, ℕ, zero, suc, ◌<◌, ◌/◌, ◌%◌, ◌==◌, ◌&&◌, Bool, true, false, List, [], ◌∷◌, length, slice_index, refl, inl, inr, arith}
use Rattle.std.specs.List.{flat_map}
use Rattle.std.specs.Fmt.{digit_glyph}
use Rattle.std.proofs.lemmas.Bool.{and_parts, cases_lt, eqb-true, ne_eqb}
use Rattle.hex.specs.Hex.{encode_lower, encode_with, lower_digits, IsBytes}
use Rattle.media_script.specs.Text.{byte_text, hex_text}

-- the test of one place of the table
abbrev has_digit : ℕ → Bool
has_digit d = slice_index lower_digits d == digit_glyph false d

-- the test of the first n places
abbrev has_digits : ℕ → Bool
has_digits zero = true
has_digits (suc n) = has_digit n && has_digits n

has_digits-at : (n d : ℕ) → has_digits n ≡ true → d < n → has_digit d ≡ true
has_digits-at zero d h lt = absurd (omega arith)
has_digits-at (suc n) d h lt =
    let parts = and_parts (has_digit n) (has_digits n) h in
    elim (cases_lt d n) [
      | inl below ↦ has_digits-at n d parts.1 below
      | inr top ↦
          let e : d ≡ n = omega arith in
          rw e parts.0
    ]

digit_is : (d : ℕ) → d < 16 → slice_index lower_digits d ≡ digit_glyph false d
digit_is d lt = eqb-true (slice_index lower_digits d) (digit_glyph false d) (has_digits-at 16 d refl lt)

two_more : (a b c d : ℕ) (xs ys : List ℕ) → a ≡ c → b ≡ d → xs ≡ ys → a ∷ b ∷ xs ≡ c ∷ d ∷ ys
two_more a b c d xs ys e f h = rw (e, f, h) refl

-- two digits a byte
encoded : (bytes : List ℕ) → IsBytes bytes → encode_lower bytes ≡ flat_map byte_text bytes
unfolding encode_with
encoded [] h = refl
encoded (b ∷ bytes) h =
    let fits : b < 256 = h 0 in
    let high : b / 16 < 16 = omega arith in
    let low : b % 16 < 16 = omega arith in
    two_more _ _ _ _ _ _ (digit_is (b / 16) high) (digit_is (b % 16) low) (encoded bytes (λ k. h (suc k)))

-- where there are bytes
pub hex_text_is : (bytes : List ℕ) → IsBytes bytes → 0 < length bytes → encode_lower bytes ≡ hex_text bytes
hex_text_is bytes h some =
    let others : (length bytes == 0) ≡ false = ne_eqb (length bytes) 0 (λ none. omega arith) in
    rw others (encoded bytes h)
