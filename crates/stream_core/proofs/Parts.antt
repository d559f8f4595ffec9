-- A run of a run of a list.
use Rattle.std.proofs.Common.{◌≡◌, ℕ, ◌+◌, ◌-◌, ◌≤◌, List, length, take, drop, sym, ap, ◌∙◌, arith}
use Rattle.std.proofs.lemmas.List.{drop-take, drop-drop, length-take, take-take}
use Rattle.std.specs.Prelude.{min}

pub part_is : (xs : List ℕ) (start count from some : ℕ) → from + some ≤ length (take count (drop start xs))
    → take some (drop (start + from) xs) ≡ take some (drop from (take count (drop start xs)))
part_is xs start count from some fits =
    let size : length (take count (drop start xs)) ≡ min count (length (drop start xs)) = length-take count (drop start xs) in
    let within : from + some ≤ count = omega (arith, fits, size) in
    let rest : ℕ = count - from in
    let split : count ≡ from + rest = omega (arith, within) in
    let enough : some ≤ rest = omega (arith, within) in
    sym (ap (λ k. take some (drop from (take k (drop start xs)))) split
    ∙ ap (take some) (drop-take from rest (drop start xs))
    ∙ take-take some rest (drop from (drop start xs)) enough
    ∙ ap (take some) (drop-drop from start xs))
