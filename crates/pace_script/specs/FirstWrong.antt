-- Which line of a pace script is the first one that is wrong.
use Rattle.std.specs.Prelude.{◌≡◌, ◌⊎◌, ℕ, ◌+◌, List, [], ◌∷◌, ◌++◌, length, Result, Ok, Err}
use Rattle.std.specs.List.{AllByRecursion}
use Rattle.media_script.specs.FirstWrong.{with_ends, IsLine}
use Rattle.media_script.specs.declared.error.ScriptError.{ScriptError}
use Rattle.media_script.specs.declared.error.ScriptError.TheVariants.{Memory, Syntax}
use Rattle.pace_core.specs.declared.run.PaceCall.{PaceCall}
use Rattle.pace_script.specs.Spelling.{IsPaceScript}

-- these lines can be continued to a script
pub record CanGoOn (lines : List (List ℕ)) : Type 0 where
  pub more : List ℕ
  pub rate : ℕ
  pub calls : List PaceCall
  pub script : IsPaceScript (with_ends lines ++ more) rate calls

-- these bytes are no script
abbrev pub IsNoScript : List ℕ → Type 0
IsNoScript bytes = (rate : ℕ) (calls : List PaceCall) → IsPaceScript bytes rate calls → ⊥

-- the lines before the n-th can go on; with the n-th they cannot, or there is none and the whole is no script
pub record IsFirstWrong (bytes : List ℕ) (n : ℕ) : Type 0 where
  pub lines : List (List ℕ)
  pub rest : List ℕ
  pub split : bytes ≡ with_ends lines ++ rest
  pub are : AllByRecursion IsLine lines
  pub count : n ≡ length lines + 1
  pub go_on : CanGoOn lines
  pub wrong :
      ((line after : List ℕ) × IsLine line × (rest ≡ line ++ 10 ∷ after) × (CanGoOn (lines ++ line ∷ []) → ⊥))
      ⊎ (IsLine rest × IsNoScript bytes)

-- where it stops at a line, that one is the first wrong one
abbrev pub StopsRightly : {X : Type 0} → Result X ScriptError → List ℕ → Type 0
StopsRightly (Ok x) bytes = Unit {0}
StopsRightly (Err Memory) bytes = Unit {0}
StopsRightly (Err (Syntax n)) bytes = IsFirstWrong bytes n
