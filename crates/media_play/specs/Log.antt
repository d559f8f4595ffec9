-- Where the sealed datagrams stand among the entries.
use Rattle.std.specs.Prelude.{ℕ, ◌+◌, Bool, true, false, cond, List, [], ◌∷◌, Option, Some, None, slice_get}
use Rattle.std.specs.Option.{option_and_then}
use Rattle.media_model.specs.declared.entry.Side.{Side}
use Rattle.media_model.specs.declared.entry.Sealed.{Sealed as SealedEntry}
use Rattle.media_model.specs.declared.entry.Entry.{Entry}
use Rattle.media_model.specs.declared.entry.Entry.TheVariants.{Sealed}
use Rattle.media_model.specs.Sides.{same_side}

-- whether a side sealed by this entry
abbrev pub seals : Side → Entry → Bool
seals side (Sealed s) = same_side side s.side
seals side entry = false

abbrev pub is_seal : Entry → Bool
is_seal (Sealed s) = true
is_seal entry = false

-- the places of the entries by which a side sealed, the first entry standing at this place
abbrev pub places_from : ℕ → Side → List Entry → List ℕ
places_from at side [] = []
places_from at side (entry ∷ entries) =
    cond (seals side entry)
    (at ∷ places_from (at + 1) side entries) (places_from (at + 1) side entries)

abbrev pub places : Side → List Entry → List ℕ
places side entries = places_from 0 side entries

-- the seal that an entry is
abbrev pub sealed_in : Entry → Option SealedEntry
sealed_in (Sealed s) = Some s
sealed_in entry = None

-- the seal that stands at a place
abbrev pub sealed_at : List Entry → ℕ → Option SealedEntry
sealed_at entries place = option_and_then sealed_in (slice_get entries place)
