-- What holds of pace scripts.
use Rattle.std.specs.Prelude.{◌≡◌, ℕ, List}
use Rattle.pace_core.specs.declared.run.PaceCall.{PaceCall}
use Rattle.pace_script.specs.Spelling.{IsPaceScript}

-- a script spells one rate and one list of calls
abbrev pub SpellsOne : Type 0
SpellsOne =
    (bytes : List ℕ) (rate other : ℕ) (calls others : List PaceCall) → IsPaceScript bytes rate calls → IsPaceScript bytes other others
    → (rate ≡ other) × (calls ≡ others)
