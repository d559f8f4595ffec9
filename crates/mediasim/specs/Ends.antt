-- The ends of the program, and what each tells.
use Rattle.std.specs.Prelude.{ℕ, ◌≡◌, ◌⊎◌, List}
use Rattle.std.specs.declared.option.Option.{Option}
use Rattle.std.specs.declared.option.Option.TheVariants.{None}
use Rattle.std.specs.Io.KnownBytes.{Appends}
use Rattle.media_base.specs.Causes.{WritesFront}
use Rattle.media_model.specs.declared.entry.Entry.{Entry}
use Rattle.mediasim.specs.declared.ends.End.{End}
use Rattle.mediasim.specs.declared.ends.End.TheVariants.{Done, Setup, Step, KeyExhausted, Call, ReadFault, WriteFault, Memory, Syntax, TooLong, Usage}

abbrev pub status_of : End → ℕ
status_of Done = 0
status_of (Setup fault) = 1
status_of (Step number fault) = 2
status_of (Call number) = 2
status_of (KeyExhausted side counter) = 3
status_of ReadFault = 4
status_of WriteFault = 5
status_of Memory = 6
status_of (Syntax line) = 7
status_of TooLong = 8
status_of Usage = 64

-- the text of an end was written; or the front of it, at a fault of writing, which takes the end's place
abbrev pub Tells : Option (List ℕ) → Option (List ℕ) → End → Option (List Entry) → List ℕ → End → Option (List Entry) → Type 0
Tells held held' end transcript text answer answered =
    ((answer ≡ end) × (answered ≡ transcript) × Appends held held' text)
    ⊎ ((answer ≡ WriteFault) × (answered ≡ None) × WritesFront held held' text)
