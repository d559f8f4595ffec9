-- What a mask says.
use Rattle.std.specs.Prelude.{ℕ, Bool, nat_eq}
use Rattle.std.specs.Int.{bit_at}
use Rattle.mask_register.specs.declared.mask.Mask.{Mask}

-- the number that is so far below the greatest was taken
unfoldable pub has : Mask → ℕ → Bool
has m i = nat_eq (bit_at m.bits i) 1
