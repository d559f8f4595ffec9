-- The parts of a rate.
use Rattle.std.proofs.Common.{ℕ, zero, suc, ◌+◌, ◌^◌, ◌<◌, ◌≤◌, arith}
use Rattle.std.proofs.lemmas.Nat.{leading_top, shr_below}
use Rattle.std.proofs.Math.Nat.{pow-le-pow_right}
use Rattle.rtcp_wire.specs.Remb.{exponent_of, mantissa_of}

below_power : (a j k : ℕ) → j ≤ k → a < 2 ^ j → a < 2 ^ k
below_power a j k le lt =
    let two : 0 < 2 = omega arith in
    let up : 2 ^ j ≤ 2 ^ k = pow-le-pow_right two le in
    omega (arith, up, lt)

pub mantissa_small : (n : ℕ) → n < 2 ^ 64 → mantissa_of n < 262144
mantissa_small zero lt = omega arith
mantissa_small (suc n) lt =
    let top = leading_top 64 (suc n) (omega arith) lt in
    shr_below (suc n) 18 (exponent_of (suc n)) (below_power (suc n) (suc top.0) (18 + exponent_of (suc n)) (omega (arith, top.1)) top.3)
