-- What is true of derived keys.
use Rattle.std.specs.Prelude.{ℕ, ◌≡◌, List, [], refl}
use Rattle.srtp_core.specs.Keys.{derived}

pub derived_nothing : (block : List ℕ → List ℕ) (salt : List ℕ) (label : ℕ) → derived block salt label 0 ≡ []
unfolding derived
derived_nothing block salt label = refl
