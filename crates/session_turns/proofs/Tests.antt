-- What tests and options say.
use Rattle.std.proofs.Common.{◌≡◌, ◌⊎◌, inl, inr, Bool, true, false, Option, Some, None, refl}
use Rattle.std.specs.Prelude.{option_and_then}

-- a test is passed, or not
pub tested : (b : Bool) → (b ≡ true) ⊎ (b ≡ false)
tested true = inl refl
tested false = inr refl

-- what an option that is there was made of
pub some_and_then : {X Y : Type 0} (f : X → Option Y) (o : Option X) (y : Y) → option_and_then f o ≡ Some y → (x : X) × (o ≡ Some x) × (f x ≡ Some y)
some_and_then f None y e = absurd cc
some_and_then f (Some x) y e = (x, refl, e)
