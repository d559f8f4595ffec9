-- How often what is left can be halved.
use Rattle.std.proofs.Common.{◌≡◌, ℕ, suc, ◌+◌, ◌-◌, ◌*◌, ◌/◌, ◌^◌, ◌<◌, ◌≤◌, sym, ap, ◌∙◌, subst, arith}
use Rattle.std.proofs.Math.Nat.{mul-le-mul_left, pow-succ'}

-- one step more
power : (s : ℕ) → 2 ^ (s + 1) ≡ 2 * 2 ^ s
power s = let one : s + 1 ≡ suc s = omega arith in ap (λ (k : ℕ). 2 ^ k) one ∙ pow-succ' 2 s

-- twice as many of at most half as much are no more
twice : (a size left n : ℕ) → a * size ≤ n → 2 * left ≤ size → 2 * a * left ≤ n
twice a size left n h half =
    let more : a * (2 * left) ≤ a * size = mul-le-mul_left a half in
    let same : 2 * a * left ≡ a * (2 * left) = grind arith in
    omega arith

step_is : (start steps next : ℕ) → start ≤ steps → next ≡ steps + 1 → 2 ^ (next - start) ≡ 2 * 2 ^ (steps - start)
step_is start steps next later is = let one : next - start ≡ steps - start + 1 = omega arith in ap (λ (k : ℕ). 2 ^ k) one ∙ power (steps - start)

pub halved_up : (low high n start steps next : ℕ) → low < high → start ≤ steps → next ≡ steps + 1 → 2 ^ (steps - start) * (high - low) ≤ n → 2 ^ (next - start) * (high - (low + (high - low) / 2 + 1)) ≤ n
halved_up low high n start steps next lt later is h =
    subst (λ (p : ℕ). p * (high - (low + (high - low) / 2 + 1)) ≤ n) (sym (step_is start steps next later is))
    (twice (2 ^ (steps - start)) (high - low) (high - (low + (high - low) / 2 + 1)) n h (omega arith))

pub halved_down : (low high n start steps next : ℕ) → low < high → start ≤ steps → next ≡ steps + 1 → 2 ^ (steps - start) * (high - low) ≤ n → 2 ^ (next - start) * (low + (high - low) / 2 - low) ≤ n
halved_down low high n start steps next lt later is h =
    subst (λ (p : ℕ). p * (low + (high - low) / 2 - low) ≤ n) (sym (step_is start steps next later is))
    (twice (2 ^ (steps - start)) (high - low) (low + (high - low) / 2 - low) n h (omega arith))

pub doubled : (low high n start steps next : ℕ) → low < high → start ≤ steps → next ≡ steps + 1 → 2 ^ (steps - start) * (high - low) ≤ n → 2 ^ (next - start) ≤ 2 * n + 1
doubled low high n start steps next lt later is h =
    let one : 2 ^ (steps - start) * 1 ≤ 2 ^ (steps - start) * (high - low) = mul-le-mul_left (2 ^ (steps - start)) (omega arith) in
    let all : 2 ^ (next - start) ≡ 2 * 2 ^ (steps - start) = step_is start steps next later is in
    omega arith

-- twice as many of at least half as much, two more each time, are no fewer
spread : (a size left n : ℕ) → n + 2 ≤ a * (size + 2) → size + 2 ≤ 2 * (left + 2) → n + 2 ≤ 2 * a * (left + 2)
spread a size left n h half =
    let more : a * (size + 2) ≤ a * (2 * (left + 2)) = mul-le-mul_left a half in
    let same : 2 * a * (left + 2) ≡ a * (2 * (left + 2)) = grind arith in
    omega arith

pub left_up : (low high n start steps next : ℕ) → low < high → start ≤ steps → next ≡ steps + 1 → n + 2 ≤ 2 ^ (steps - start) * (high - low + 2) → n + 2 ≤ 2 ^ (next - start) * (high - (low + (high - low) / 2 + 1) + 2)
left_up low high n start steps next lt later is h =
    subst (λ (p : ℕ). n + 2 ≤ p * (high - (low + (high - low) / 2 + 1) + 2)) (sym (step_is start steps next later is))
    (spread (2 ^ (steps - start)) (high - low) (high - (low + (high - low) / 2 + 1)) n h (omega arith))

pub left_down : (low high n start steps next : ℕ) → low < high → start ≤ steps → next ≡ steps + 1 → n + 2 ≤ 2 ^ (steps - start) * (high - low + 2) → n + 2 ≤ 2 ^ (next - start) * (low + (high - low) / 2 - low + 2)
left_down low high n start steps next lt later is h =
    subst (λ (p : ℕ). n + 2 ≤ p * (low + (high - low) / 2 - low + 2)) (sym (step_is start steps next later is))
    (spread (2 ^ (steps - start)) (high - low) (low + (high - low) / 2 - low) n h (omega arith))
