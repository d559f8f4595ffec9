-- What a reading of RED answers.
use Rattle.std.specs.Prelude.{◌≡◌, Option, Some, None, Result, Ok, Err}
use Rattle.payload_core.specs.declared.red.RedError.{RedError}
use Rattle.payload_core.specs.declared.red.RedError.TheVariants.{Memory, BadRed}

-- want of memory says nothing of the bytes; BadRed says that there is nothing to read
abbrev pub Refuses : {Y : Type 0} → RedError → Option Y → Type 0
Refuses Memory read = Unit {0}
Refuses BadRed read = read ≡ None

-- what was read, seen by view, is what there is to read
abbrev pub Gives : {X Y : Type 0} → (X → Y) → Result X RedError → Option Y → Type 0
Gives view (Ok x) read = read ≡ Some (view x)
Gives view (Err e) read = Refuses e read
