-- What holds of scripts.
use Rattle.std.specs.Prelude.{◌≡◌, ℕ, ◌^◌, ◌<◌, ◌≤◌, ◌==◌, List, [], ◌∷◌, ◌++◌, length, false, Some}
use Rattle.std.specs.Fmt.{decimal}
use Rattle.std.specs.List.{AllByRecursion, join_with_byte}
use Rattle.media_model.specs.declared.setup.Setup.{Setup}
use Rattle.media_model.specs.declared.step.Step.{Step}
use Rattle.media_script.specs.FirstWrong.{with_ends, IsLine}
use Rattle.media_script.specs.Grammar.{pieces_of}
use Rattle.media_script.specs.Spelling.{IsTime, IsName, IsScript}
use Rattle.media_script.specs.Words.{number_of, narrow_of, time_of, name_of}

-- a script spells one setup and one list of steps
abbrev pub SpellsOne : Type 0
SpellsOne =
    (bytes : List ℕ) (setup other : Setup) (steps others : List Step) → IsScript bytes setup steps → IsScript bytes other others
    → (setup ≡ other) × (steps ≡ others)

-- what is read of a word is how it is spelled, and what is spelled so is read
pub record WordsAreSpelled : Type 0 where
  pub number_spelled : (word : List ℕ) (n : ℕ) → number_of word ≡ Some n → (word ≡ decimal n) × (n < 2 ^ 64)
  pub number_again : (n : ℕ) → n < 2 ^ 64 → number_of (decimal n) ≡ Some n
  pub narrow_spelled : (limit : ℕ) (word : List ℕ) (n : ℕ) → narrow_of limit word ≡ Some n → (word ≡ decimal n) × (n < limit)
  pub narrow_again : (limit n : ℕ) → limit ≤ 2 ^ 64 → n < limit → narrow_of limit (decimal n) ≡ Some n
  pub time_spelled : (word : List ℕ) (time : ℕ) → time_of word ≡ Some time → IsTime word time
  pub time_again : (word : List ℕ) (time : ℕ) → IsTime word time → time_of word ≡ Some time
  pub name_spelled : (most : ℕ) (word name : List ℕ) → name_of most word ≡ Some name → (word ≡ name) × IsName most name
  pub name_again : (most : ℕ) (name : List ℕ) → IsName most name → name_of most name ≡ Some name

-- the pieces between line feeds are the lines, and what stands behind the last of them
pub record PiecesAreLines : Type 0 where
  pub some : (bytes : List ℕ) → length (pieces_of bytes) == 0 ≡ false
  pub last : (bytes : List ℕ) → IsLine bytes → pieces_of bytes ≡ bytes ∷ []
  pub first : (bytes line after : List ℕ) → bytes ≡ line ++ 10 ∷ after → IsLine line → pieces_of bytes ≡ line ∷ pieces_of after
  pub joined : (bytes : List ℕ) → bytes ≡ join_with_byte 10 (pieces_of bytes)
  pub plain : (bytes : List ℕ) → AllByRecursion IsLine (pieces_of bytes)
  pub of_lines : (lines : List (List ℕ)) → AllByRecursion IsLine lines → pieces_of (with_ends lines) ≡ lines ++ [] ∷ []
