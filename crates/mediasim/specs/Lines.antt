-- The text of an end.
use Rattle.std.specs.Prelude.{ℕ, ◌≡◌, List, string_bytes, codes, Result, Ok, Err}
use Rattle.std.specs.declared.alloc.AllocError.{AllocError}
use Rattle.std.specs.declared.option.Option.{Option}
use Rattle.std.specs.declared.option.Option.TheVariants.{Some, None}
use Rattle.media_model.specs.declared.entry.Entry.{Entry}
use Rattle.mediasim.specs.declared.ends.End.{End}
use Rattle.mediasim.specs.declared.ends.End.TheVariants.{Done, Step, KeyExhausted, Memory}
use Rattle.mediasim.specs.declared.lines.LastLine.{LastLine}
use Rattle.mediasim.specs.declared.lines.LastLine.TheVariants.{Made, Fixed}

abbrev pub bytes_of : LastLine → List ℕ
bytes_of (Made text) = string_bytes text
bytes_of (Fixed bytes) = bytes.now

-- the line that tells of want of memory
abbrev pub memory_line : List ℕ
memory_line = codes "fault memory\n"

-- an end has its own last line, seen by view, or there was no memory for it
abbrev pub IsLastLine : {X : Type 0} → (X → List ℕ) → End → Result X AllocError → End → List ℕ → Type 0
IsLastLine view end (Ok line) ended last = (ended ≡ end) × (last ≡ view line)
IsLastLine view end (Err e) ended last = (ended ≡ Memory) × (last ≡ memory_line)

-- the transcript that an end has
abbrev pub reported : End → List Entry → Option (List Entry)
reported Done entries = Some entries
reported (Step number fault) entries = Some entries
reported (KeyExhausted side counter) entries = Some entries
reported end entries = None
