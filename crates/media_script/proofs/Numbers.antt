-- Reading a number digit by digit.
use Rattle.std.proofs.Common.{◌≡◌, ℕ, zero, suc, ◌+◌, ◌-◌, ◌*◌, ◌^◌, ◌<◌, ◌≤◌, Bool, true, false, cond, ◌&&◌, List, [], ◌∷◌, length, get_or, take, Option, Some, None, refl, ap, ◌∙◌, arith}
use Rattle.std.specs.Char.{is_ascii_digit, digit_value}
use Rattle.std.specs.Str.{all_ascii_digits}
use Rattle.std.specs.Str.Parse.{digits_value}
use Rattle.std.proofs.lemmas.Bool.Decides.{nat_tests}
use Rattle.std.proofs.lemmas.Bool.{le-ltb, lt-ltb}
use Rattle.std.proofs.lemmas.Int.Digits.{digits_value_more}
use Rattle.std.proofs.lemmas.Str.Parse.{digits_value-take-le}
use Rattle.media_script.specs.Words.{number_of, plain_front, is_number}

and_false : (b : Bool) → (b && false) ≡ false
and_false true = refl
and_false false = refl

-- where one byte is no digit, not all are
pub no_digit : (word : List ℕ) (i : ℕ) → i < length word → is_ascii_digit (get_or word i 0) ≡ false → all_ascii_digits word ≡ false
no_digit [] i lt h = absurd (omega arith)
no_digit (c ∷ cs) zero lt h = ap (λ b. b && all_ascii_digits cs) h
no_digit (c ∷ cs) (suc i) lt h = ap (λ b. is_ascii_digit c && b) (no_digit cs i (omega arith) h) ∙ and_false (is_ascii_digit c)

-- where each byte is a digit, all are
pub all_digits : (word : List ℕ) → ((i : ℕ) → i < length word → is_ascii_digit (get_or word i 0) ≡ true) → all_ascii_digits word ≡ true
all_digits [] h = refl
all_digits (c ∷ cs) h = ap (λ b. b && all_ascii_digits cs) (h 0 (omega arith)) ∙ all_digits cs (λ i lt. h (suc i) (omega arith))

cond_none : (b : Bool) (o : Option ℕ) → o ≡ None → cond b o None ≡ None
cond_none true o e = e
cond_none false o e = refl

pub stops_at_byte : (word : List ℕ) (i : ℕ) → i < length word → is_ascii_digit (get_or word i 0) ≡ false → number_of word ≡ None
unfolding number_of
stops_at_byte word i lt h = rw (no_digit word i lt h) (grind (arith, nat_tests))

pub stops_at_limit : (word : List ℕ) (i : ℕ) → 2 ^ 64 ≤ digits_value 10 (take i word) → number_of word ≡ None
unfolding number_of
stops_at_limit word i large =
    let whole : 2 ^ 64 ≤ digits_value 10 word = omega (arith, digits_value-take-le 10 word i (omega arith)) in
    cond_none (is_number word) _ (ap (λ b. cond b (Some (digits_value 10 word)) None) (le-ltb _ _ whole))

digit_is : (c : ℕ) → is_ascii_digit c ≡ true → digit_value c ≡ c - 48
digit_is c h = grind (arith, nat_tests)

-- one digit more
pub value_more : (word : List ℕ) (i : ℕ) → i < length word → is_ascii_digit (get_or word i 0) ≡ true → digits_value 10 (take (i + 1) word) ≡ digits_value 10 (take i word) * 10 + (get_or word i 0 - 48)
value_more word i lt h = digits_value_more 10 word i lt ∙ ap (λ d. digits_value 10 (take i word) * 10 + d) (digit_is _ h)

-- all of it was read
pub ends : (word : List ℕ) (value : ℕ) → plain_front word ≡ true → ((i : ℕ) → i < length word → is_ascii_digit (get_or word i 0) ≡ true) → value ≡ digits_value 10 word → value < 2 ^ 64 → number_of word ≡ Some value
unfolding number_of
ends word value front digits is small =
    let all = all_digits word digits in
    rw (front, all, ← is) (ap (λ b. cond b (Some value) None) (lt-ltb _ _ small))
