-- What a loop does to each place of a list, one after another.
use Rattle.std.proofs.Common.{◌≡◌, ℕ, zero, suc, ◌+◌, ◌<◌, List, [], ◌∷◌, ◌++◌, length, take, drop, map, set, get_or, refl, ap, ◌∙◌, arith}

-- the places below i are done
pub record IsDone {X : Type 0} (f : X → X) (i : ℕ) (xs now : List X) : Type 0 where
  pub so_far : now ≡ map f (take i xs) ++ drop i xs

done_at : {X : Type 0} (f : X → X) (i : ℕ) (xs : List X) (d : X) → i < length xs
    → set (map f (take i xs) ++ drop i xs) i (f (get_or (map f (take i xs) ++ drop i xs) i d)) ≡ map f (take (i + 1) xs) ++ drop (i + 1) xs
done_at f i [] d lt = absurd (omega (arith, lt))
done_at f zero (x ∷ xs) d lt = refl
done_at f (suc i) (x ∷ xs) d lt = let k : suc i + 1 ≡ suc (i + 1) = omega arith in rw k (ap (λ ys. f x ∷ ys) (done_at f i xs d (omega arith)))

done_more : {X : Type 0} (f : X → X) (i : ℕ) (xs now : List X) (d : X) (new : X) → i < length xs → new ≡ f (get_or now i d) → IsDone f i xs now → IsDone f (i + 1) xs (set now i new)
done_more f i xs now d new lt is h =
    let at : set now i (f (get_or now i d)) ≡ map f (take (i + 1) xs) ++ drop (i + 1) xs = rw h.so_far (done_at f i xs d lt) in
    record { so_far = rw is at }

pub done_next : {X : Type 0} (f : X → X) (i : ℕ) (xs now : List X) (new old : X) → i < length xs → old ≡ get_or now i old → new ≡ f old → IsDone f i xs now → IsDone f (i + 1) xs (set now i new)
done_next f i xs now new old lt e is h = done_more f i xs now old new lt (is ∙ ap f e) h
