-- The numbers between two others that may still be taken.
use Rattle.std.proofs.Common.{◌≡◌, ◌∙◌, ℕ, suc, ◌+◌, ◌-◌, ◌<◌, ◌≤◌, true, false, cond, Some, None, List, [], ◌∷◌, ap, sym, arith}
use Rattle.std.specs.Prelude.{filter, option_and_then}
use Rattle.std.specs.List.{range_with_len}
use Rattle.repair_core.specs.Fresh.{is_fresh}
use Rattle.red_core.specs.Known.{Known}
use Rattle.red_core.specs.Placing.{fresh_in, even_number, if_fresh, chosen}

range_by : (n k end : ℕ) → end - k ≡ suc n → range_with_len k (end - k) ≡ k ∷ range_with_len (k + 1) (end - (k + 1))
range_by n k end e =
    ap (range_with_len k) e ∙ ap (λ m. k ∷ range_with_len (k + 1) m) (omega (arith, e))

range_next : (k end : ℕ) → k < end → range_with_len k (end - k) ≡ k ∷ range_with_len (k + 1) (end - (k + 1))
range_next k end h = range_by (end - (k + 1)) k end (omega (arith, h))

fresh_next : (taken : List ℕ) (k end : ℕ) → k < end
    → fresh_in taken k end ≡ cond (is_fresh taken k) (k ∷ fresh_in taken (k + 1) end) (fresh_in taken (k + 1) end)
fresh_next taken k end h = ap (filter (is_fresh taken)) (range_next k end h)

-- a number that may be taken is the first, and one that may not is passed over
pub fresh_here : (taken : List ℕ) (k end : ℕ) → k < end → is_fresh taken k ≡ true → fresh_in taken k end ≡ k ∷ fresh_in taken (k + 1) end
fresh_here taken k end h f =
    fresh_next taken k end h ∙ ap (λ b. cond b (k ∷ fresh_in taken (k + 1) end) (fresh_in taken (k + 1) end)) f

pub fresh_later : (taken : List ℕ) (k end : ℕ) → k < end → is_fresh taken k ≡ false → fresh_in taken k end ≡ fresh_in taken (k + 1) end
fresh_later taken k end h f =
    fresh_next taken k end h ∙ ap (λ b. cond b (k ∷ fresh_in taken (k + 1) end) (fresh_in taken (k + 1) end)) f

-- at the end there is none
range_none : (n k : ℕ) → n ≡ 0 → range_with_len k n ≡ []
range_none n k e = ap (range_with_len k) e

pub fresh_none : (taken : List ℕ) (k end : ℕ) → end ≤ k → fresh_in taken k end ≡ []
fresh_none taken k end h = ap (filter (is_fresh taken)) (range_none (end - k) k (omega (arith, h)))

-- what is chosen of none, of one, and of several
pub chosen_none : (taken : List ℕ) (l u : Known) (t : ℕ) (fs : List ℕ) → fs ≡ [] → None ≡ chosen taken l u t fs
chosen_none taken l u t fs e = sym (ap (chosen taken l u t) e)

pub chosen_one : (taken : List ℕ) (l u : Known) (t p : ℕ) (fs gs : List ℕ) → fs ≡ p ∷ gs → gs ≡ [] → Some p ≡ chosen taken l u t fs
chosen_one taken l u t p fs gs e f = sym (ap (chosen taken l u t) (e ∙ ap (λ r. p ∷ r) f))

pub chosen_several : (taken : List ℕ) (l u : Known) (t p q : ℕ) (fs gs hs : List ℕ) → fs ≡ p ∷ gs → gs ≡ q ∷ hs
    → chosen taken l u t fs ≡ option_and_then (if_fresh taken) (even_number l u t)
chosen_several taken l u t p q fs gs hs e f = ap (chosen taken l u t) (e ∙ ap (λ r. p ∷ r) f)
