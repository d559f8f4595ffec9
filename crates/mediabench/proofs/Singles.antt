-- Lists of one word and of two.
use Rattle.std.proofs.Common.{◌≡◌, List, [], ◌∷◌, length, get_or, sym, ap, ◌∙◌, arith}

pub single : {X : Type 0} (xs : List X) (x : X) → length xs ≡ 1 → x ≡ get_or xs 0 x → xs ≡ x ∷ []
single [] x one is = absurd (omega arith)
single (y ∷ []) x one is = ap (λ z. z ∷ []) (sym is)
single (y ∷ z ∷ xs) x one is = absurd (omega arith)

pub pair : {X : Type 0} (xs : List X) (x y : X) → length xs ≡ 2 → x ≡ get_or xs 0 x → y ≡ get_or xs 1 y → xs ≡ x ∷ y ∷ []
pair [] x y two is is' = absurd (omega arith)
pair (a ∷ []) x y two is is' = absurd (omega arith)
pair (a ∷ b ∷ []) x y two is is' = ap (λ z. z ∷ b ∷ []) (sym is) ∙ ap (λ z. x ∷ z ∷ []) (sym is')
pair (a ∷ b ∷ c ∷ xs) x y two is is' = absurd (omega arith)
