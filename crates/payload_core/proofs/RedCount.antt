-- The loop that counts the redundant blocks.
use Rattle.std.proofs.Common.{◌≡◌, ℕ, suc, ◌+◌, ◌*◌, ◌<◌, ◌≤◌, List, [], ◌∷◌, length, drop, get_or, Option, Some, None, refl, ap, ◌∙◌, arith, ltb, true, false}
use Rattle.std.specs.Option.{option_map}
use Rattle.std.proofs.lemmas.Bool.{lt-ltb, le-ltb}
use Rattle.payload_core.specs.Red.{redundant_count}

-- so many headers stood before the rest, and those of the rest are the others
pub record IsCounted (count : ℕ) (rest bytes : List ℕ) : Type 0 where
  pub so_far : option_map (λ k. k + count) (redundant_count rest) ≡ redundant_count bytes
  pub passed : length rest + 4 * count ≤ length bytes

pub count_here : (rest : List ℕ) → 0 < length rest → get_or rest 0 0 < 128 → redundant_count rest ≡ Some 0
count_here [] lt low = absurd (omega arith)
count_here (b ∷ []) lt low = let t : ltb b 128 ≡ true = lt-ltb _ _ low in rw t refl
count_here (b ∷ c ∷ []) lt low = let t : ltb b 128 ≡ true = lt-ltb _ _ low in rw t refl
count_here (b ∷ c ∷ d ∷ []) lt low = let t : ltb b 128 ≡ true = lt-ltb _ _ low in rw t refl
count_here (b ∷ c ∷ d ∷ e ∷ rest) lt low = let t : ltb b 128 ≡ true = lt-ltb _ _ low in rw t refl

pub count_next : (rest : List ℕ) → 4 ≤ length rest → 128 ≤ get_or rest 0 0 → redundant_count rest ≡ option_map suc (redundant_count (drop 4 rest))
count_next [] le high = absurd (omega arith)
count_next (b ∷ []) le high = absurd (omega arith)
count_next (b ∷ c ∷ []) le high = absurd (omega arith)
count_next (b ∷ c ∷ d ∷ []) le high = absurd (omega arith)
count_next (b ∷ c ∷ d ∷ e ∷ rest) le high = let t : ltb b 128 ≡ false = le-ltb _ _ high in rw t refl

regroup : (count : ℕ) (o : Option ℕ) → option_map (λ k. k + (count + 1)) o ≡ option_map (λ k. k + count) (option_map suc o)
regroup count None = refl
regroup count (Some k) = let e : k + (count + 1) ≡ suc k + count = omega arith in ap Some e

pub count_more : (count : ℕ) (rest after bytes : List ℕ) → 4 ≤ length rest → 128 ≤ get_or rest 0 0 → after ≡ drop 4 rest → length rest ≡ length after + 4
    → IsCounted count rest bytes → IsCounted (count + 1) after bytes
count_more count rest after bytes le high e len so = record {
  so_far =
      let next : redundant_count rest ≡ option_map suc (redundant_count after) = count_next rest le high ∙ rw e refl in
      regroup count (redundant_count after) ∙ (rw next at so.so_far);
  passed = omega (arith, so.passed);
}
