-- What stands in a list, and what holds along it.
use Rattle.std.specs.Prelude.{◌≡◌, true, if◌then◌else◌, List, [], ◌∷◌, ◌++◌}
use Rattle.media_model.specs.declared.entry.Entry.{Entry}
use Rattle.media_model.specs.Entries.{is_step}
pub use Rattle.run_model.specs.Listing.{IsIn, NoRepeat}

-- P holds of each entry, with the entries before it
abbrev pub EachFrom : (List Entry → Entry → Type 0) → List Entry → List Entry → Type 0
EachFrom P past [] = Unit {0}
EachFrom P past (entry ∷ entries) = P past entry × EachFrom P (past ++ entry ∷ []) entries

abbrev pub Each : (List Entry → Entry → Type 0) → List Entry → Type 0
Each P entries = EachFrom P [] entries

-- the entries up to the next step
abbrev pub brought : List Entry → List Entry
brought [] = []
brought (entry ∷ entries) = if is_step entry then [] else entry ∷ brought entries

-- P holds of each step, with the entries before it and with what it brings
abbrev pub StepsFrom : (List Entry → Entry → List Entry → Type 0) → List Entry → List Entry → Type 0
StepsFrom P past [] = Unit {0}
StepsFrom P past (entry ∷ entries) =
    (is_step entry ≡ true → P past entry (brought entries))
    × StepsFrom P (past ++ entry ∷ []) entries

abbrev pub EachStep : (List Entry → Entry → List Entry → Type 0) → List Entry → Type 0
EachStep P entries = StepsFrom P [] entries

-- entries are only added, behind those that there are
abbrev pub OnlyAdds : List Entry → List Entry → Type 0
OnlyAdds old new = (more : List Entry) × (new ≡ old ++ more)
