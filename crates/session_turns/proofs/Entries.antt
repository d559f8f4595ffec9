-- The entries that rising numbers are packed into: their fields fit, and there are few of them.
use Rattle.std.proofs.Common.{◌≡◌, ℕ, zero, suc, ◌+◌, ◌-◌, ◌*◌, ◌^◌, ◌<◌, ◌≤◌, Bool, true, false, cond, List, [], ◌∷◌, refl, sym, ap, ◌∙◌, subst, arith, length, Some, None}
use Rattle.std.specs.Prelude.{bit_or, filter, nat_le}
use Rattle.std.specs.List.{AllByRecursion}
use Rattle.std.specs.Int.Bits.{or_shifted_r}
use Rattle.std.proofs.Math.Nat.{pow-le-pow_right, one-le-pow}
use Rattle.std.proofs.lemmas.Nat.{pow-add}
use Rattle.std.proofs.lemmas.Bool.Decides.{nat_tests}
use Rattle.rtcp_wire.specs.Laws.{IsNackEntry}
use Rattle.rtp_base.specs.declared.nack_entry.NackEntry.{NackEntry}
use Rattle.repair_core.specs.declared.missing.Missing.{Missing}
use Rattle.repair_core.specs.Rounds.{Heard, taken, is_due, due, numbers_up, lowest}
use Rattle.repair_core.specs.Fresh.{greatest}
use Rattle.repair_core.specs.Entries.{entry_of, alone, with_bit, packed}

some_power : (i : ℕ) → 0 < 2 ^ i
some_power i = let one : 1 ≤ 2 ^ i = one-le-pow i 2 (omega arith) in omega arith

double : (j : ℕ) → 2 ^ (j + 1) ≡ 2 ^ j + 2 ^ j
double j = let times : 2 ^ (j + 1) ≡ 2 ^ j * 2 = pow-add 2 j 1 in omega arith

below_power : (b i j : ℕ) → b < 2 ^ i → i ≤ j → b < 2 ^ j
below_power b i j small le = let more : 2 ^ i ≤ 2 ^ j = pow-le-pow_right (omega arith) le in omega arith

or_sum : (b j : ℕ) → b < 2 ^ j → bit_or b (2 ^ j) ≡ b + 2 ^ j
or_sum b j small =
    let once : 2 ^ j ≡ 1 * 2 ^ j = omega arith in
    let turned : 1 * 2 ^ j + b ≡ b + 2 ^ j = omega arith in
    ap (λ (z : ℕ). bit_or b z) once ∙ or_shifted_r 1 j b small ∙ turned

sum_small : (b j : ℕ) → b < 2 ^ j → b + 2 ^ j < 2 ^ (j + 1)
sum_small b j small = let twice : 2 ^ (j + 1) ≡ 2 ^ j + 2 ^ j = double j in omega arith

-- numbers that rise above another, and end below a third
abbrev RisesIn : ℕ → ℕ → List ℕ → Type 0
RisesIn high n [] = Unit {0}
RisesIn high n (k ∷ ks) = (n < k) × (k < high) × RisesIn high k ks

more_bits : (m : Missing) (last k : ℕ) → m.first ≤ last → last < k → m.bits < 2 ^ (last - m.first) → m.bits < 2 ^ (k - m.first - 1)
more_bits m last k from lt small = below_power m.bits (last - m.first) (k - m.first - 1) small (omega arith)

next_bits : (m : Missing) (k : ℕ) → m.first < k → m.bits < 2 ^ (k - m.first - 1) → (with_bit m k).bits < 2 ^ (k - m.first)
next_bits m k above small =
    let j = k - m.first - 1 in
    let up : k - m.first - 1 + 1 ≡ k - m.first = omega arith in
    subst (λ (n : ℕ). n < 2 ^ (k - m.first)) (sym (or_sum m.bits j small)) (subst (λ (i : ℕ). m.bits + 2 ^ (k - m.first - 1) < 2 ^ i) up (sum_small m.bits j small))

-- an entry that ends with a number
fits : (m : Missing) (last : ℕ) → last ≤ m.first + 16 → m.bits < 2 ^ (last - m.first) → IsNackEntry (entry_of m)
fits m last near small =
    let wide : m.bits < 2 ^ 16 = below_power m.bits (last - m.first) 16 small (omega arith) in
    (omega arith, wide)

packed_fit : (high : ℕ) (m : Missing) (last : ℕ) (ks : List ℕ) → m.first ≤ last → last ≤ m.first + 16 → m.bits < 2 ^ (last - m.first) → RisesIn high last ks
    → AllByRecursion IsNackEntry (packed (Some m) ks)
packed_fit high m last [] from near small up = (fits m last near small, tt)
packed_fit high m last (k ∷ ks) from near small up =
    let wide = more_bits m last k from up.0 small in
    pick (nat_le k (m.first + 16)) refl
    (λ close. packed_fit high (with_bit m k) k ks (omega (arith, up.0)) close (next_bits m k (omega (arith, up.0)) wide) up.2)
    (packed_fit high (alone k) k ks (omega arith) (omega arith) (some_power (k - k)) up.2) where
      pick : (b : Bool) → nat_le k (m.first + 16) ≡ b
          → (k ≤ m.first + 16 → AllByRecursion IsNackEntry (packed (Some (with_bit m k)) ks))
          → AllByRecursion IsNackEntry (packed (Some (alone k)) ks)
          → AllByRecursion IsNackEntry (cond b (packed (Some (with_bit m k)) ks) (entry_of m ∷ packed (Some (alone k)) ks))
      pick true is with_it next = with_it (grind (arith, nat_tests))
      pick false is with_it next = (fits m last near small, next)

-- each entry but the last takes 17 numbers
packed_few : (high : ℕ) (m : Missing) (last : ℕ) (ks : List ℕ) → m.first < high → RisesIn high last ks → 17 * length (packed (Some m) ks) + m.first ≤ high + 16
packed_few high m last [] from up = omega arith
packed_few high m last (k ∷ ks) from up =
    pick (nat_le k (m.first + 16)) refl (packed_few high (with_bit m k) k ks from up.2) (packed_few high (alone k) k ks (omega (arith, up.1)) up.2) where
      pick : (b : Bool) → nat_le k (m.first + 16) ≡ b
          → 17 * length (packed (Some (with_bit m k)) ks) + m.first ≤ high + 16
          → 17 * length (packed (Some (alone k)) ks) + k ≤ high + 16
          → 17 * length (cond b (packed (Some (with_bit m k)) ks) (entry_of m ∷ packed (Some (alone k)) ks)) + m.first ≤ high + 16
      pick true is with_it next = with_it
      pick false is with_it next =
          let far : m.first + 16 < k = grind (arith, nat_tests) in
          omega arith

rises_filter : (p : ℕ → Bool) (high count k n : ℕ) → n < k → k + count ≤ high → RisesIn high n (filter p (numbers_up count k))
rises_filter p high zero k n lt le = tt
rises_filter p high (suc count) k n lt le =
    pick (p k) (rises_filter p high count (k + 1) k (omega arith) (omega arith)) (rises_filter p high count (k + 1) n (omega arith) (omega arith)) where
      pick : (b : Bool) → RisesIn high k (filter p (numbers_up count (k + 1))) → RisesIn high n (filter p (numbers_up count (k + 1)))
          → RisesIn high n (cond b (k ∷ filter p (numbers_up count (k + 1))) (filter p (numbers_up count (k + 1))))
      pick true here past = (lt, omega arith, here)
      pick false here past = past

-- at most so many entries, of fields that fit
pub record AreFew (es : List NackEntry) : Type 0 where
  pub few : length es ≤ 6
  pub fit : AllByRecursion IsNackEntry es

all_few : (p : ℕ → Bool) (count k : ℕ) → count ≤ 100 → AreFew (packed None (filter p (numbers_up count k)))
all_few p zero k le = record { few = omega arith; fit = tt }
all_few p (suc count) k le = pick (p k) (all_few p count (k + 1) (omega arith)) (rises_filter p (k + suc count) count (k + 1) k (omega arith) (omega arith)) where
  pick : (b : Bool) → AreFew (packed None (filter p (numbers_up count (k + 1)))) → RisesIn (k + suc count) k (filter p (numbers_up count (k + 1)))
      → AreFew (packed None (cond b (k ∷ filter p (numbers_up count (k + 1))) (filter p (numbers_up count (k + 1)))))
  pick true rest up =
      let ks = filter p (numbers_up count (k + 1)) in
      let most = packed_few (k + suc count) (alone k) k ks (omega arith) up in
      record {
        few = omega (arith, most);
        fit = packed_fit (k + suc count) (alone k) k ks (omega arith) (omega arith) (some_power (k - k)) up;
      }
  pick false rest up = rest

low_near : (l : List ℕ) → greatest l - lowest l ≤ 100
low_near [] = omega arith
low_near (x ∷ xs) = omega arith

pub due_few : (past : Heard) (now wait : ℕ) → AreFew (packed None (due past now wait))
due_few past now wait = let l = taken past in all_few (is_due past now wait) (greatest l - lowest l) (lowest l) (low_near l)
