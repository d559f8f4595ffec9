-- The two sides of a run.
use Rattle.std.specs.Prelude.{Bool, true, false}
use Rattle.media_model.specs.declared.entry.Side.{Side}
use Rattle.media_model.specs.declared.entry.Side.TheVariants.{A, B}

abbrev pub peer_of : Side → Side
peer_of A = B
peer_of B = A

-- whether two sides are one
abbrev pub same_side : Side → Side → Bool
same_side A A = true
same_side A B = false
same_side B A = false
same_side B B = true
