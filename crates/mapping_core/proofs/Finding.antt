-- What a search through streams says of them all.
use Rattle.std.proofs.Common.{◌≡◌, ℕ, Bool, true, false, List, [], ◌∷◌, ◌||◌, find, is_some, Some, None, refl, ◌∙◌, arith}
use Rattle.std.specs.List.{list_any}
use Rattle.mapping_core.specs.Streams.{has_main, has_repairs, is_known}
use Rattle.mapping_core.specs.declared.stream.IncomingStream.{IncomingStream}

-- one is found exactly where there is one
pub any_is_found : {X : Type 0} (p : X → Bool) → (xs : List X) → list_any p xs ≡ is_some (find p xs)
any_is_found p [] = refl
any_is_found p (x ∷ xs) = let rest = any_is_found p xs in grind (arith, rest)

-- an SSRC is known exactly where packets or repairs of some stream come under it
pub known_either : (ssrc : ℕ) (streams : List IncomingStream)
    → is_known streams ssrc ≡ (list_any (has_main ssrc) streams || list_any (has_repairs ssrc) streams)
known_either ssrc [] = refl
known_either ssrc (s ∷ ss) = either (has_main ssrc s) (has_repairs ssrc s) _ _ _ (known_either ssrc ss) where
  either : (a b rest main repairs : Bool) → rest ≡ (main || repairs) → (a || b || rest) ≡ ((a || main) || (b || repairs))
  either true b rest main repairs h = refl
  either false true rest true repairs h = refl
  either false true rest false repairs h = refl
  either false false rest main repairs h = h

pub known_by_main : (ssrc : ℕ) (streams : List IncomingStream) (s : IncomingStream) → find (has_main ssrc) streams ≡ Some s
    → is_known streams ssrc ≡ true
known_by_main ssrc streams s h = known_either ssrc streams ∙ grind (arith, h, any_is_found (has_main ssrc) streams)

pub known_by_repairs : (ssrc : ℕ) (streams : List IncomingStream) (s : IncomingStream) → find (has_repairs ssrc) streams ≡ Some s
    → is_known streams ssrc ≡ true
known_by_repairs ssrc streams s h = known_either ssrc streams ∙ grind (arith, h, any_is_found (has_repairs ssrc) streams)

pub unknown_to_both : (ssrc : ℕ) (streams : List IncomingStream) → find (has_main ssrc) streams ≡ None → find (has_repairs ssrc) streams ≡ None
    → is_known streams ssrc ≡ false
unknown_to_both ssrc streams h k = known_either ssrc streams
    ∙ grind (arith, h, k, any_is_found (has_main ssrc) streams, any_is_found (has_repairs ssrc) streams)
