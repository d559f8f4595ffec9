-- The entries of rising numbers name exactly these.
use Rattle.std.proofs.Common.{◌≡◌, ◌≢◌, ℕ, zero, suc, ◌+◌, ◌-◌, ◌*◌, ◌/◌, ◌%◌, ◌^◌, ◌<◌, ◌≤◌, Bool, true, false, cond, eqb, List, [], ◌∷◌, ◌++◌, refl, sym, ap, ◌∙◌, subst, arith, map, append_assoc, ⊎_elim, Some, None}
use Rattle.std.specs.Prelude.{bit_or, filter, nat_le}
use Rattle.std.specs.List.{flat_map}
use Rattle.std.specs.Int.Bits.{or_shifted_r}
use Rattle.std.proofs.Math.Nat.{pow-le-pow_right, one-le-pow, add-mul-div_left, div-eq_of_lt}
use Rattle.std.proofs.lemmas.Nat.{pow-add}
use Rattle.std.proofs.lemmas.List.{append-nil, map-append}
use Rattle.std.proofs.lemmas.Bool.Decides.{nat_tests}
use Rattle.std.proofs.lemmas.Bool.{cases_eq}
use Rattle.rtp_base.specs.NackEntry.{named_below}
use Rattle.repair_core.specs.declared.missing.Missing.{Missing}
use Rattle.repair_core.specs.Rounds.{taken, is_due, numbers_up, lowest}
use Rattle.repair_core.specs.Fresh.{greatest}
use Rattle.repair_core.specs.Entries.{entry_of, alone, with_bit, packed, names, RoundsNameTheDue}

named_step : (f b i : ℕ) → named_below f b (suc i) ≡ named_below f b i ++ cond (eqb (b / 2 ^ i % 2) 1) ((f + i + 1) ∷ []) []
unfolding named_below
named_step f b i = refl

named_none : (f b : ℕ) → named_below f b zero ≡ []
unfolding named_below
named_none f b = refl

some_power : (i : ℕ) → 0 < 2 ^ i
some_power i = let one : 1 ≤ 2 ^ i = one-le-pow i 2 (omega arith) in omega arith

double : (j : ℕ) → 2 ^ (j + 1) ≡ 2 ^ j + 2 ^ j
double j = let times : 2 ^ (j + 1) ≡ 2 ^ j * 2 = pow-add 2 j 1 in omega arith

below_power : (b i j : ℕ) → b < 2 ^ i → i ≤ j → b < 2 ^ j
below_power b i j small le = let more : 2 ^ i ≤ 2 ^ j = pow-le-pow_right (omega arith) le in omega arith

-- above the bits there is none
zero_above : (f b j n : ℕ) → b < 2 ^ j → j ≤ n → named_below f b n ≡ named_below f b j
zero_above f b j zero small le = let is : zero ≡ j = omega arith in ap (λ (k : ℕ). named_below f b k) is
zero_above f b j (suc i) small le =
    ⊎_elim
    (λ (is : j ≡ suc i). ap (λ (k : ℕ). named_below f b k) (sym is))
    (λ (ne : j ≢ suc i).
    let low : j ≤ i = omega arith in
    let none : b / 2 ^ i ≡ 0 = div-eq_of_lt (below_power b j i small low) in
    named_step f b i
    ∙ ap (λ (q : ℕ). named_below f b i ++ cond (eqb (q % 2) 1) ((f + i + 1) ∷ []) []) none
    ∙ append-nil (named_below f b i)
    ∙ zero_above f b j i small low)
    (cases_eq j (suc i))

parity : (q y : ℕ) → (q + 2 * y) % 2 ≡ q % 2
parity q y = omega arith

-- a bit more above changes none below
bit_below : (b j i : ℕ) → i < j → (b + 2 ^ j) / 2 ^ i % 2 ≡ b / 2 ^ i % 2
bit_below b j i lt =
    let e = j - i - 1 in
    let at : j ≡ i + (1 + e) = omega arith in
    let power : 2 ^ j ≡ 2 ^ i * (2 * 2 ^ e) = ap (λ (k : ℕ). 2 ^ k) at ∙ pow-add 2 i (1 + e) ∙ ap (λ (z : ℕ). 2 ^ i * z) (pow-add 2 1 e) in
    ap (λ (z : ℕ). (b + z) / 2 ^ i % 2) power
    ∙ ap (λ (q : ℕ). q % 2) (add-mul-div_left b (2 * 2 ^ e) (some_power i))
    ∙ parity (b / 2 ^ i) (2 ^ e)

same_below : (f b j i : ℕ) → i ≤ j → named_below f (b + 2 ^ j) i ≡ named_below f b i
same_below f b j zero le = named_none f (b + 2 ^ j) ∙ sym (named_none f b)
same_below f b j (suc i) le =
    named_step f (b + 2 ^ j) i
    ∙ ap (λ (q : ℕ). named_below f (b + 2 ^ j) i ++ cond (eqb q 1) ((f + i + 1) ∷ []) []) (bit_below b j i (omega arith))
    ∙ ap (λ (l : List ℕ). l ++ cond (eqb (b / 2 ^ i % 2) 1) ((f + i + 1) ∷ []) []) (same_below f b j i (omega arith))
    ∙ sym (named_step f b i)

bit_here : (b j : ℕ) → b < 2 ^ j → (b + 2 ^ j) / 2 ^ j % 2 ≡ 1
bit_here b j small =
    let once : 2 ^ j ≡ 2 ^ j * 1 = omega arith in
    ap (λ (z : ℕ). (b + z) / 2 ^ j % 2) once
    ∙ ap (λ (q : ℕ). q % 2) (add-mul-div_left b 1 (some_power j))
    ∙ ap (λ (q : ℕ). (q + 1) % 2) (div-eq_of_lt small)

or_sum : (b j : ℕ) → b < 2 ^ j → bit_or b (2 ^ j) ≡ b + 2 ^ j
or_sum b j small =
    let once : 2 ^ j ≡ 1 * 2 ^ j = omega arith in
    let turned : 1 * 2 ^ j + b ≡ b + 2 ^ j = omega arith in
    ap (λ (z : ℕ). bit_or b z) once ∙ or_shifted_r 1 j b small ∙ turned

sum_small : (b j : ℕ) → b < 2 ^ j → b + 2 ^ j < 2 ^ (j + 1)
sum_small b j small = let twice : 2 ^ (j + 1) ≡ 2 ^ j + 2 ^ j = double j in omega arith

named_or : (f b j : ℕ) → b < 2 ^ j → j < 16 → named_below f (bit_or b (2 ^ j)) 16 ≡ named_below f b 16 ++ (f + j + 1) ∷ []
named_or f b j small le =
    let next : j + 1 ≡ suc j = omega arith in
    ap (λ (c : ℕ). named_below f c 16) (or_sum b j small)
    ∙ zero_above f (b + 2 ^ j) (j + 1) 16 (sum_small b j small) (omega arith)
    ∙ ap (λ (k : ℕ). named_below f (b + 2 ^ j) k) next
    ∙ named_step f (b + 2 ^ j) j
    ∙ ap (λ (q : ℕ). named_below f (b + 2 ^ j) j ++ cond (eqb q 1) ((f + j + 1) ∷ []) []) (bit_here b j small)
    ∙ ap (λ (l : List ℕ). l ++ (f + j + 1) ∷ []) (same_below f b j j (omega arith) ∙ sym (zero_above f b j 16 small (omega arith)))

-- what an entry names
abbrev low_bits : ℕ → ℕ
low_bits n = n % 65536

names_alone : (k : ℕ) → names (entry_of (alone k)) ≡ (k % 65536) ∷ []
names_alone k =
    let twice : k % 65536 % 65536 ≡ k % 65536 = omega arith in
    ap (λ (l : List ℕ). map low_bits ((k % 65536) ∷ l)) (zero_above (k % 65536) 0 0 16 (omega arith) (omega arith) ∙ named_none (k % 65536) 0)
    ∙ ap (λ (n : ℕ). n ∷ []) twice

names_with : (m : Missing) (k : ℕ) → m.first < k → k ≤ m.first + 16 → m.bits < 2 ^ (k - m.first - 1) → names (entry_of (with_bit m k)) ≡ names (entry_of m) ++ (k % 65536) ∷ []
names_with m k above near small =
    let f = m.first % 65536 in
    let j = k - m.first - 1 in
    let last : (m.first % 65536 + (k - m.first - 1) + 1) % 65536 ≡ k % 65536 = omega arith in
    ap (λ (l : List ℕ). map low_bits (f ∷ l)) (named_or f m.bits j small (omega arith))
    ∙ map-append low_bits (f ∷ named_below f m.bits 16) ((f + j + 1) ∷ [])
    ∙ ap (λ (n : ℕ). names (entry_of m) ++ n ∷ []) last

-- numbers that rise above another
abbrev RisesAbove : ℕ → List ℕ → Type 0
RisesAbove n [] = Unit {0}
RisesAbove n (k ∷ ks) = (n < k) × RisesAbove k ks

more_bits : (m : Missing) (last k : ℕ) → m.first ≤ last → last < k → m.bits < 2 ^ (last - m.first) → m.bits < 2 ^ (k - m.first - 1)
more_bits m last k from lt small = below_power m.bits (last - m.first) (k - m.first - 1) small (omega arith)

next_bits : (m : Missing) (k : ℕ) → m.first < k → m.bits < 2 ^ (k - m.first - 1) → (with_bit m k).bits < 2 ^ (k - m.first)
next_bits m k above small =
    let j = k - m.first - 1 in
    let up : k - m.first - 1 + 1 ≡ k - m.first = omega arith in
    subst (λ (n : ℕ). n < 2 ^ (k - m.first)) (sym (or_sum m.bits j small)) (subst (λ (i : ℕ). m.bits + 2 ^ (k - m.first - 1) < 2 ^ i) up (sum_small m.bits j small))

packed_names : (m : Missing) (last : ℕ) (ks : List ℕ) → m.first ≤ last → m.bits < 2 ^ (last - m.first) → RisesAbove last ks → flat_map names (packed (Some m) ks) ≡ names (entry_of m) ++ map low_bits ks
packed_names m last [] from small up = refl
packed_names m last (k ∷ ks) from small up =
    let wide = more_bits m last k from up.0 small in
    pick (nat_le k (m.first + 16)) refl wide
    (packed_names (with_bit m k) k ks (omega (arith, up.0)) (next_bits m k (omega (arith, up.0)) wide) up.1)
    (packed_names (alone k) k ks (omega arith) (some_power (k - k)) up.1) where
      pick : (b : Bool) → nat_le k (m.first + 16) ≡ b → m.bits < 2 ^ (k - m.first - 1)
          → flat_map names (packed (Some (with_bit m k)) ks) ≡ names (entry_of (with_bit m k)) ++ map low_bits ks
          → flat_map names (packed (Some (alone k)) ks) ≡ names (entry_of (alone k)) ++ map low_bits ks
          → flat_map names (cond b (packed (Some (with_bit m k)) ks) (entry_of m ∷ packed (Some (alone k)) ks)) ≡ names (entry_of m) ++ (k % 65536 ∷ map low_bits ks)
      pick true is wide with_it next =
          let near : k ≤ m.first + 16 = grind (arith, nat_tests) in
          with_it ∙ ap (λ (l : List ℕ). l ++ map low_bits ks) (names_with m k (omega (arith, up.0)) near wide) ∙ append_assoc (names (entry_of m)) ((k % 65536) ∷ []) (map low_bits ks)
      pick false is wide with_it next = ap (λ (l : List ℕ). names (entry_of m) ++ l) (next ∙ ap (λ (l : List ℕ). l ++ map low_bits ks) (names_alone k))

rises_filter : (p : ℕ → Bool) (count k n : ℕ) → n < k → RisesAbove n (filter p (numbers_up count k))
rises_filter p zero k n lt = tt
rises_filter p (suc count) k n lt = pick (p k) (rises_filter p count (k + 1) k (omega arith)) (rises_filter p count (k + 1) n (omega arith)) where
  pick : (b : Bool) → RisesAbove k (filter p (numbers_up count (k + 1))) → RisesAbove n (filter p (numbers_up count (k + 1))) → RisesAbove n (cond b (k ∷ filter p (numbers_up count (k + 1))) (filter p (numbers_up count (k + 1))))
  pick true here past = (lt, here)
  pick false here past = past

first_names : (p : ℕ → Bool) (count k : ℕ) → flat_map names (packed None (filter p (numbers_up count k))) ≡ map low_bits (filter p (numbers_up count k))
first_names p zero k = refl
first_names p (suc count) k = pick (p k) (first_names p count (k + 1)) (rises_filter p count (k + 1) k (omega arith)) where
  pick : (b : Bool) → flat_map names (packed None (filter p (numbers_up count (k + 1)))) ≡ map low_bits (filter p (numbers_up count (k + 1))) → RisesAbove k (filter p (numbers_up count (k + 1)))
      → flat_map names (packed None (cond b (k ∷ filter p (numbers_up count (k + 1))) (filter p (numbers_up count (k + 1))))) ≡ map low_bits (cond b (k ∷ filter p (numbers_up count (k + 1))) (filter p (numbers_up count (k + 1))))
  pick true rest up = packed_names (alone k) k (filter p (numbers_up count (k + 1))) (omega arith) (some_power (k - k)) up ∙ ap (λ (l : List ℕ). l ++ map low_bits (filter p (numbers_up count (k + 1)))) (names_alone k)
  pick false rest up = rest

pub due_names : RoundsNameTheDue
due_names past now wait = let l = taken past in first_names (is_due past now wait) (greatest l - lowest l) (lowest l)
