-- The lines of a run's log.
use Rattle.std.specs.Prelude.{ℕ, List, [], ◌∷◌, ◌++◌, codes, Option, Some, None}
use Rattle.std.specs.Fmt.{decimal}
use Rattle.std.specs.List.{flat_map}
use Rattle.media_script.specs.Text.{words}
use Rattle.pace_core.specs.declared.log.PaceEntry.{PaceEntry}
use Rattle.pace_core.specs.declared.log.PaceEntry.TheVariants.{Set, Timed, Chose, Idle, Sent}

-- a moment, and - for none
abbrev pub wake_text : Option ℕ → List ℕ
wake_text None = codes "-"
wake_text (Some moment) = decimal moment

-- the padding that is asked for
abbrev pub pad_text : Option (List ℕ × ℕ) → List ℕ
pad_text None = []
pad_text (Some asked) = words (codes "pad" ∷ asked.0 ∷ decimal asked.1 ∷ []) ++ codes "\n"

-- the line of an entry; setting a rate, and a timeout that asks for no padding, have none
abbrev pub entry_text : PaceEntry → List ℕ
entry_text Set = []
entry_text (Timed asked) = pad_text asked
entry_text (Chose mid) = words (codes "chose" ∷ mid ∷ []) ++ codes "\n"
entry_text (Idle wake) = words (codes "none" ∷ wake_text wake ∷ []) ++ codes "\n"
entry_text (Sent bits debt rate) =
    words (codes "sent" ∷ decimal bits ∷ (codes "debt=" ++ decimal debt) ∷ (codes "rate=" ++ decimal rate) ∷ []) ++ codes "\n"

abbrev pub log_text : List PaceEntry → List ℕ
log_text log = flat_map entry_text log

-- the text of a run that was played to its end
abbrev pub text_of : List PaceEntry → List ℕ
text_of log = log_text log ++ codes "end\n"
