-- The steps that an iterator gave so far.
use Rattle.std.proofs.Common.{◌≡◌, List, [], ◌∷◌, ◌++◌, length, map, Option, Some, refl, sym, ap, subst, arith}
use Rattle.std.specs.Borrow.{Bor}
use Rattle.std.specs.Iterator.{Yields}
use Rattle.media_model.specs.declared.step.Step.{Step}

abbrev pub steps_of : List (Bor Step) → List Step
steps_of given = map (λ s. s.now) given

-- one more
pub gave_more : {S : Type 0} (next : S → Option (Bor Step) → S → Type 0) (old at new : S) (given : List (Bor Step)) (step : Bor Step)
    → Yields next old given at → next at (Some step) new → Yields next old (given ++ step ∷ []) new
gave_more next old at new [] step is gives = (new, subst (λ s. next s (Some step) new) (sym is) gives, refl)
gave_more next old at new (x ∷ xs) step is gives = (is.0, is.1, gave_more next is.0 at new xs step is.2 gives)

pub as_many : (given : List (Bor Step)) → length (steps_of given) ≡ length given
as_many [] = refl
as_many (x ∷ xs) = omega (arith, as_many xs)

pub one_more : (given : List (Bor Step)) (step : Bor Step) → steps_of (given ++ step ∷ []) ≡ steps_of given ++ step.now ∷ []
one_more [] step = refl
one_more (x ∷ xs) step = ap (λ (steps : List Step). x.now ∷ steps) (one_more xs step)
