-- The numbers on the two sides of a time.
use Rattle.std.proofs.Common.{◌≡◌, ℕ, ◌<◌, Bool, true, false, cond, Option, Some, None, List, [], ◌∷◌, refl, sym, subst, arith, fold}
use Rattle.std.specs.Prelude.{◌&&◌, nat_lt, IfSome}
use Rattle.std.proofs.lemmas.Bool.Decides.{nat_tests}
use Rattle.red_core.specs.Known.{Known, higher, lower, below, above}

one_of : (P : Known → Type 0) (b : Bool) (best : Option Known) (k : Known) → (b ≡ true → P k) → IfSome best P → IfSome (cond b (Some k) best) P
one_of P true best k e h = e refl
one_of P false best k e h = h

is_earlier : (t n : ℕ) → nat_lt n t ≡ true → n < t
is_earlier t n e = grind (arith, nat_tests)

first_holds : (a b : Bool) → (a && b) ≡ true → a ≡ true
first_holds true b e = refl
first_holds false b e = e

higher_is_earlier : (t : ℕ) (best : Option Known) (k : Known) → IfSome best (λ o. o.time < t) → IfSome (higher t best k) (λ o. o.time < t)
higher_is_earlier t None k h = one_of (λ o. o.time < t) (nat_lt k.time t) None k (is_earlier t k.time) h
higher_is_earlier t (Some b) k h =
    one_of (λ o. o.time < t) (nat_lt k.time t && nat_lt b.number k.number) (Some b) k
    (λ e. is_earlier t k.time (first_holds (nat_lt k.time t) (nat_lt b.number k.number) e)) h

below_from : (t : ℕ) (best : Option Known) (l : List Known) → IfSome best (λ o. o.time < t) → IfSome (fold (higher t) best l) (λ o. o.time < t)
below_from t best [] h = h
below_from t best (k ∷ l) h = below_from t (higher t best k) l (higher_is_earlier t best k h)

lower_is_later : (t : ℕ) (best : Option Known) (k : Known) → IfSome best (λ o. t < o.time) → IfSome (lower t best k) (λ o. t < o.time)
lower_is_later t None k h = one_of (λ o. t < o.time) (nat_lt t k.time) None k (is_earlier k.time t) h
lower_is_later t (Some b) k h =
    one_of (λ o. t < o.time) (nat_lt t k.time && nat_lt k.number b.number) (Some b) k
    (λ e. is_earlier k.time t (first_holds (nat_lt t k.time) (nat_lt k.number b.number) e)) h

above_from : (t : ℕ) (best : Option Known) (l : List Known) → IfSome best (λ o. t < o.time) → IfSome (fold (lower t) best l) (λ o. t < o.time)
above_from t best [] h = h
above_from t best (k ∷ l) h = above_from t (lower t best k) l (lower_is_later t best k h)

pub below_is_earlier : (t : ℕ) (l : List Known) (r : Option Known) → r ≡ below l t → IfSome r (λ o. o.time < t)
below_is_earlier t l r e = subst (λ x. IfSome x (λ o. o.time < t)) (sym e) (below_from t None l tt)

pub above_is_later : (t : ℕ) (l : List Known) (r : Option Known) → r ≡ above l t → IfSome r (λ o. t < o.time)
above_is_later t l r e = subst (λ x. IfSome x (λ o. t < o.time)) (sym e) (above_from t None l tt)
