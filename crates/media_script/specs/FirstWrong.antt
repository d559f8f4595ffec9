-- Which line is the first one that is wrong.
use Rattle.std.specs.Prelude.{◌≡◌, ◌≢◌, ◌⊎◌, ℕ, ◌+◌, List, [], ◌∷◌, ◌++◌, length, All, Result, Ok, Err}
use Rattle.std.specs.List.{flat_map, AllByRecursion}
use Rattle.media_script.specs.declared.error.ScriptError.{ScriptError}
use Rattle.media_script.specs.declared.error.ScriptError.TheVariants.{Memory, Syntax}
use Rattle.media_model.specs.declared.setup.Setup.{Setup}
use Rattle.media_script.specs.declared.setup_line.SetupLine.{SetupLine}
use Rattle.media_model.specs.declared.step.Step.{Step}
use Rattle.media_script.specs.Spelling.{IsForm, IsScript}

abbrev pub with_ends : List (List ℕ) → List ℕ
with_ends lines = flat_map (λ line. line ++ 10 ∷ []) lines

abbrev pub IsLine : List ℕ → Type 0
IsLine line = All (λ b. b ≢ 10) line

-- these lines can be continued to a script, but that a line that is required may be missing
pub record CanGoOn (lines : List (List ℕ)) : Type 0 where
  pub more : List ℕ
  pub said : List SetupLine
  pub steps : List Step
  pub form : IsForm (with_ends lines ++ more) said steps

-- the lines before the n-th can go on; with the n-th they cannot, or there is none and the whole is no script
pub record IsFirstWrong (bytes : List ℕ) (n : ℕ) : Type 0 where
  pub lines : List (List ℕ)
  pub rest : List ℕ
  pub split : bytes ≡ with_ends lines ++ rest
  pub are : AllByRecursion IsLine lines
  pub count : n ≡ length lines + 1
  pub go_on : CanGoOn lines
  pub wrong :
      ((line after : List ℕ) × IsLine line × (rest ≡ line ++ 10 ∷ after) × (CanGoOn (lines ++ line ∷ []) → ⊥))
      ⊎ (IsLine rest × ((setup : Setup) (steps : List Step) → IsScript bytes setup steps → ⊥))

-- where it stops at a line, that one is the first wrong one
abbrev pub StopsRightly : {X : Type 0} → Result X ScriptError → List ℕ → Type 0
StopsRightly (Ok x) bytes = Unit {0}
StopsRightly (Err Memory) bytes = Unit {0}
StopsRightly (Err (Syntax n)) bytes = IsFirstWrong bytes n
