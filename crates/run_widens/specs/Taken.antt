-- Which numbers a stream took, as far as what its repairs restore depends on it: by what the next restored number is widened,
-- and whether a number was taken.
use Rattle.std.specs.Prelude.{ℕ, Bool, true, false, not, ◌||◌, max, nat_lt, if◌then◌else◌, List, [], ◌∷◌, Option, Some, None}
use Rattle.repair_core.specs.Fresh.{greatest_of}
use Rattle.run_model.specs.Receiving.{Lists, begun_taken}
use Rattle.run_widens.specs.declared.taken.Taken.{Taken}

abbrev pub no_numbers : Taken
no_numbers = record { greatest = None; begun = false }

abbrev pub greater : Option ℕ → ℕ → Option ℕ
greater None n = Some n
greater (Some g) n = Some (max g n)

abbrev pub is_greater : Option ℕ → ℕ → Bool
is_greater None n = true
is_greater (Some g) n = nat_lt g n

-- after the number of a datagram that is no repair
abbrev pub with_first : ℕ → Taken → Taken
with_first n t = record { greatest = greater t.greatest n; begun = true }

-- after the own number of a repair: on the main SSRC it counts while no number was taken
abbrev pub with_tried : Bool → ℕ → Taken → Taken
with_tried on_main n t = if not on_main || t.begun then t else record { greatest = greater t.greatest n; begun = false }

-- after the number that a repair restores: above what it is widened by it is taken
abbrev pub with_restored : ℕ → Taken → Taken
with_restored n t = record { greatest = greater t.greatest n; begun = t.begun || is_greater t.greatest n }

abbrev pub is_begun : List ℕ → Bool
is_begun [] = false
is_begun (n ∷ ns) = true

-- what is kept of the numbers of a stream
abbrev pub taken_of : Lists → Taken
taken_of l = record { greatest = greatest_of (begun_taken l); begun = is_begun l.taken }
