-- The last numbers that are known.
use Rattle.std.proofs.Common.{◌≡◌, List, ◌∷◌, take, ap, take-take, arith}
use Rattle.red_core.specs.Known.{Known, with_known}

pub last_known : (past : List Known) (k : Known) → with_known (take 32 past) k ≡ take 32 (k ∷ past)
last_known past k = ap (λ l. k ∷ l) (take-take 31 32 past (omega arith))
