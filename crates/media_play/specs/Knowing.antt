-- Which numbers were written on the streams of a side.
use Rattle.std.specs.Prelude.{◌≡◌, ℕ, zero, suc, ◌==◌, ◌||◌, Bool, true, false, List, [], ◌∷◌, slice_get, Option, Some, None}
use Rattle.std.specs.List.{list_any, AllZip}
use Rattle.media_model.specs.declared.entry.Side.{Side}
use Rattle.media_model.specs.declared.entry.Entry.{Entry}
use Rattle.media_model.specs.declared.setup.Setup.{Setup}
use Rattle.media_model.specs.Setup.{streams_of}
use Rattle.media_model.specs.Entries.{writes_on}
use Rattle.media_play.specs.declared.numbers.Numbers.{Numbers}
use Rattle.media_laws.specs.Rules.{has}
use Rattle.run_model.specs.Events.{Outgoing}
use Rattle.run_model.specs.Listing.{IsIn}
use Rattle.run_model.specs.TxPlay.{TxRecord}

-- the numbers that were written under an SSRC
abbrev pub UsedAs : Side → List Entry → ℕ → Numbers → Type 0
UsedAs side entries ssrc used =
    (n : ℕ) → has used n
    ≡ list_any (λ w. w.number == n) (writes_on side ssrc entries)

-- the same for each stream of a side
abbrev pub AreUsed : Setup → Side → List Entry → List Numbers → Type 0
AreUsed setup side entries used = AllZip (UsedAs side entries) (streams_of side setup) used

-- each number that was written on a plain stream is that of a write of the entries
abbrev pub IsWrittenIn : Side → List Entry → Outgoing × TxRecord → Type 0
IsWrittenIn side entries s =
    (n : ℕ) → IsIn n s.1.written
    → list_any (λ w. w.number == n) (writes_on side s.0.ssrc entries) ≡ true

-- a number was written on the stream at a place
abbrev pub has_number : Option Numbers → ℕ → Bool
has_number None n = false
has_number (Some used) n = has used n

abbrev pub has_written : List Numbers → ℕ → ℕ → Bool
has_written written place n = has_number (slice_get written place) n

-- one number more is written there
abbrev pub IsNoted : ℕ → ℕ → List Numbers → List Numbers → Type 0
IsNoted place n [] new = new ≡ []
IsNoted zero n (used ∷ old) [] = ⊥
IsNoted zero n (used ∷ old) (now ∷ new) =
    ((k : ℕ) → has now k ≡ (has used k || (n == k)))
    × (new ≡ old)
IsNoted (suc place) n (used ∷ old) [] = ⊥
IsNoted (suc place) n (used ∷ old) (now ∷ new) = (now ≡ used) × IsNoted place n old new
