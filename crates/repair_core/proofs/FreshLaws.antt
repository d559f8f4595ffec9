-- A number that was taken stays taken.
use Rattle.std.proofs.Common.{◌≡◌, ℕ, ◌≤◌, Bool, true, false, List, [], ◌∷◌, ◌++◌, refl, arith}
use Rattle.std.specs.Prelude.{if◌then◌else◌}
use Rattle.std.proofs.lemmas.Bool.Decides.{nat_tests}
use Rattle.repair_core.specs.Fresh.{is_fresh, with_number, with_numbers, TakenIsNotFresh, RememberedIsNotFresh}
use Rattle.repair_core.proofs.RegisterLaws.{any_push, greatest-push}

-- what is not fresh is not fresh after one more number was added
stale_push : (l : List ℕ) (n m : ℕ) → is_fresh l n ≡ false → is_fresh (l ++ m ∷ []) n ≡ false
stale_push [] n m h = absurd (grind (arith, h))
stale_push (x ∷ xs) n m h = grind (arith, nat_tests, h, any_push n m (x ∷ xs), greatest-push (x ∷ xs) m)

stale_after : (l : List ℕ) (n m : ℕ) → is_fresh l n ≡ false → is_fresh (with_number l m) n ≡ false
stale_after l n m h = added (is_fresh l m)
  where
    added : (b : Bool) → is_fresh (if b then l ++ m ∷ [] else l) n ≡ false
    added true = stale_push l n m h
    added false = h

stale : (l later : List ℕ) (n : ℕ) → is_fresh l n ≡ false → is_fresh (with_numbers l later) n ≡ false
stale l [] n h = h
stale l (m ∷ later) n h = stale (with_number l m) later n (stale_after l n m h)

-- a number is not fresh right after it was taken
taken_now : (l : List ℕ) (n : ℕ) → is_fresh (l ++ n ∷ []) n ≡ false
taken_now [] n = grind (arith, nat_tests)
taken_now (x ∷ xs) n = grind (arith, nat_tests, any_push n n (x ∷ xs), greatest-push (x ∷ xs) n)

taken_once : (l : List ℕ) (n : ℕ) → is_fresh (with_number l n) n ≡ false
taken_once l n = by_cases (is_fresh l n) refl
  where
    by_cases : (b : Bool) → is_fresh l n ≡ b → is_fresh (if b then l ++ n ∷ [] else l) n ≡ false
    by_cases true e = taken_now l n
    by_cases false e = e

pub taken_is_not_fresh : TakenIsNotFresh
taken_is_not_fresh l later n = stale (with_number l n) later n (taken_once l n)

remembered : (first n : ℕ) → n ≤ first → is_fresh (first ∷ []) n ≡ false
remembered first n h = grind (arith, nat_tests, h)

pub remembered_is_not_fresh : RememberedIsNotFresh
remembered_is_not_fresh first n later h = stale (first ∷ []) later n (remembered first n h)
