-- What readers answer.
use Rattle.std.specs.Prelude.{◌≡◌, ℕ, Option, Some, None, Result, Ok, Err}
use Rattle.media_script.specs.declared.error.LineError.{LineError}
use Rattle.media_script.specs.declared.error.LineError.TheVariants.{Memory, Outside}
use Rattle.media_script.specs.declared.error.ScriptError.{ScriptError}
use Rattle.media_script.specs.declared.error.ScriptError.TheVariants as script

abbrev pub Fails : {Y : Type 0} → LineError → Option Y → Type 0
Fails Memory read = Unit {0}
Fails Outside read = read ≡ None

-- it answers what reading gives, seen by view, unless memory ran out
abbrev pub Gives : {X Y : Type 0} → (X → Y) → Result X LineError → Option Y → Type 0
Gives view (Ok x) read = read ≡ Some (view x)
Gives view (Err e) read = Fails e read

abbrev pub StopsAt : {Y : Type 0} → ScriptError → Result Y ℕ → Type 0
StopsAt script.Memory read = Unit {0}
StopsAt (script.Syntax line) read = read ≡ Err line

-- it answers what a script gives, or the first line outside the grammar, unless memory ran out
abbrev pub GivesScript : {X Y : Type 0} → (X → Y) → Result X ScriptError → Result Y ℕ → Type 0
GivesScript view (Ok x) read = read ≡ Ok (view x)
GivesScript view (Err e) read = StopsAt e read

abbrev pub error_at : LineError → ℕ → ScriptError
error_at Memory line = script.Memory
error_at Outside line = script.Syntax line
