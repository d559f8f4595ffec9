-- Parts written one behind another.
use Rattle.std.proofs.Common.{◌≡◌, ℕ, ◌+◌, List, ◌++◌, drop, ap, ◌∙◌, append_assoc}
use Rattle.std.proofs.lemmas.List.{drop-drop}

pub written : (fixed sources extension old behind rest new : List ℕ) (n r : ℕ) → behind ≡ drop 12 old → rest ≡ drop n behind → new ≡ extension ++ drop r rest → fixed ++ (sources ++ new) ≡ fixed ++ sources ++ extension ++ drop (12 + n + r) old
written fixed sources extension old behind rest new n r b e w =
    let left : drop r rest ≡ drop (12 + n + r) old = ap (drop r) (e ∙ ap (drop n) b ∙ drop-drop n 12 old) ∙ drop-drop r (12 + n) old in
    ap (λ (l : List ℕ). fixed ++ (sources ++ l)) (w ∙ ap (λ (l : List ℕ). extension ++ l) left) ∙ simp append_assoc
