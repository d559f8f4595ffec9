-- What a mask has after one bit was added, and after it was shifted.
use Rattle.std.proofs.Common.{◌≡◌, ◌≢◌, ℕ, ◌+◌, ◌-◌, ◌*◌, ◌/◌, ◌%◌, ◌^◌, ◌<◌, ◌≤◌, Bool, true, false, refl, sym, ap, ◌∙◌, arith, ⊎_elim, bit_and, bit_or}
use Rattle.std.specs.Prelude.{◌&&◌, ◌||◌, nat_eq, nat_le}
use Rattle.std.specs.Int.{bit_at, bit_not, w128, trailing_ones}
use Rattle.std.proofs.lemmas.Nat.{div-add-mod', pow_pos}
use Rattle.std.proofs.lemmas.Bool.Decides.{nat_tests}
use Rattle.std.proofs.lemmas.Bool.{cases_eq, cases_lt}
use Rattle.std.proofs.lemmas.Nat.Bits.{shr_and_one, bit_at-zero, bit_at-pow_other, bit_at_set_same, bit_at_set_other, bit_at_cat_low, bit_at_cat_high, bit_at-trailing_ones, bit_at_ones}
use lib.Count.{trailing_le}
use Rattle.mask_register.specs.declared.mask.Mask.{Mask}
use Rattle.mask_register.specs.Mask.{has}

eq_same : (i j : ℕ) → i ≡ j → nat_eq i j ≡ true
eq_same i j e = grind (arith, nat_tests)

eq_other : (i j : ℕ) → i ≢ j → nat_eq i j ≡ false
eq_other i j e = grind (arith, nat_tests)

pub alone_has : (i : ℕ) → has (record { bits = 1 }) i ≡ nat_eq i 0
unfolding has
alone_has i =
    ⊎_elim
    (λ (e : i ≡ 0). ap (λ (n : ℕ). nat_eq (bit_at 1 n) 1) e ∙ sym (eq_same i 0 e))
    (λ (ne : i ≢ 0). ap (λ (n : ℕ). nat_eq n 1) (bit_at-pow_other 0 i ne) ∙ sym (eq_other i 0 ne))
    (cases_eq i 0)

pub none_has : (i : ℕ) → has (record { bits = 0 }) i ≡ false
unfolding has
none_has i = ap (λ (n : ℕ). nat_eq n 1) (bit_at-zero i)

pub has_is : (m : Mask) (i : ℕ) → nat_eq (bit_and (m.bits / 2 ^ i) 1) 1 ≡ has m i
unfolding has
has_is m i = rw (shr_and_one m.bits i) refl

pub added_has : (m : Mask) (i back : ℕ) → back ≤ 100 → has (record { bits = bit_or m.bits (1 * 2 ^ back % 2 ^ 128) }) i ≡ (nat_eq i back || has m i)
unfolding has
added_has m i back h =
    ⊎_elim
    (λ (e : i ≡ back).
    ap (λ (n : ℕ). nat_eq (bit_at (bit_or m.bits (1 * 2 ^ back % 2 ^ 128)) n) 1) e
    ∙ ap (λ (n : ℕ). nat_eq n 1) (bit_at_set_same w128 m.bits back (omega arith))
    ∙ sym (ap (λ (b : Bool). b || has m i) (eq_same i back e)))
    (λ (ne : i ≢ back).
    ap (λ (n : ℕ). nat_eq n 1) (bit_at_set_other w128 m.bits back (omega arith) i ne)
    ∙ sym (ap (λ (b : Bool). b || has m i) (eq_other i back ne)))
    (cases_eq i back)

-- the low bits of a number
bit_low : (n i : ℕ) → i < 128 → bit_at (n % 2 ^ 128) i ≡ bit_at n i
bit_low n i h =
    sym (bit_at_cat_low (n / 2 ^ 128) 128 (n % 2 ^ 128) i h)
    ∙ ap (λ (k : ℕ). bit_at k i) (div-add-mod' n (2 ^ 128))

pub shifted_has : (m : Mask) (by i : ℕ) → i ≤ 100 → by ≤ 100 → has (record { bits = m.bits * 2 ^ by % 2 ^ 128 }) i ≡ (nat_le by i && has m (i - by))
unfolding has
shifted_has m by i h near =
    ap (λ (n : ℕ). nat_eq n 1) (bit_low (m.bits * 2 ^ by) i (omega arith) ∙ ap (λ (k : ℕ). bit_at k i) (plus (m.bits * 2 ^ by)))
    ∙ ⊎_elim
    (λ (lt : i < by).
    ap (λ (n : ℕ). nat_eq n 1) (bit_at_cat_low m.bits by 0 i lt ∙ bit_at-zero i)
    ∙ sym (ap (λ (b : Bool). b && has m (i - by)) (le_false by i lt)))
    (λ (le : by ≤ i).
    ap (λ (n : ℕ). nat_eq n 1) (bit_at_cat_high m.bits by 0 i (pow_pos by) le)
    ∙ sym (ap (λ (b : Bool). b && has m (i - by)) (le_true by i le)))
    (cases_lt i by) where
      plus : (n : ℕ) → n ≡ n + 0
      plus n = omega arith

      le_false : (a b : ℕ) → b < a → nat_le a b ≡ false
      le_false a b l = grind (arith, nat_tests)

      le_true : (a b : ℕ) → a ≤ b → nat_le a b ≡ true
      le_true a b l = grind (arith, nat_tests)

pub run_has : (m : Mask) (i : ℕ) → m.bits < 2 ^ 128 → i < trailing_ones w128 m.bits → has m i ≡ true
unfolding has
run_has m i small h =
    ⊎_elim
    (λ (lt : m.bits + 1 < 2 ^ 128). ap (λ (n : ℕ). nat_eq n 1) ((bit_at-trailing_ones w128 m.bits lt).2 i h))
    (λ (le : 2 ^ 128 ≤ m.bits + 1).
    let all : m.bits ≡ 2 ^ 128 - 1 = omega arith in
    let within : trailing_ones w128 m.bits ≤ 128 = trailing_le 128 (bit_not w128 m.bits) in
    ap (λ (n : ℕ). nat_eq (bit_at n i) 1) all ∙ ap (λ (n : ℕ). nat_eq n 1) (bit_at_ones 128 i (omega arith)))
    (cases_lt (m.bits + 1) (2 ^ 128))
